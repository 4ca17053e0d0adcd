use Rattle.trail_rights.proofs.Vocabulary.{◌∙◌, ◌∷◌, ap, ap₂, sym, subst, map, AllByRecursion, HasDecided, sought_by}
use Rattle.trail_rights.proofs.Vocabulary.{windows_after, HasSettled, setting_by}
use Rattle.trail_rights.proofs.Seen.{all_decided, settings_stay, sought_stays}
use Rattle.trail_rights.proofs.Settled.{all_settled}
use Rattle.trail_rights.proofs.sight.Sight.follow.Goals as goal

pub returns-clause-sees : goal.returns-clause-sees
returns-clause-sees c = λ owner marked s. record {
  windows = c.in_ok-follow_windows.ensures ∙ ap (windows_after c.args.act.now) s.windows;
  deciders =
      subst (AllByRecursion (HasDecided owner ((c.args.mark, c.args.act.now) ∷ marked))) (sym c.decide_all.ensures)
      (all_decided owner marked c.args.mark c.args.act.now c.args.self.now.deciders.items s.deciders);
  settlers =
      subst (AllByRecursion (HasSettled ((c.args.mark, c.args.act.now) ∷ marked))) (sym c.settle_all.ensures)
      (all_settled marked c.args.mark c.args.act.now c.args.self.now.settlers.items s.settlers);
}

pub returns-clause-sought : goal.returns-clause-sought
returns-clause-sought c =
    ap₂ (λ ds ss. (ds, ss))
    (ap (map sought_by) c.decide_all.ensures
    ∙ sought_stays c.args.mark c.args.act.now c.args.self.now.deciders.items)
    (ap (map setting_by) c.settle_all.ensures
    ∙ settings_stay c.args.mark c.args.act.now c.args.self.now.settlers.items)
