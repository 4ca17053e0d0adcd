-- A deed that is done, and the leaving that it causes, leave sessions alike.
use Rattle.session_alike.proofs.Vocabulary.{◌≡◌, ℕ, List, [], ◌∷◌, ◌++◌, Option, Some, None, refl, ap, sym, ◌∙◌, subst}
use Rattle.session_alike.proofs.Vocabulary.{map, ◌||◌, option_map, Act, History, followed_by, Matched, Check, Refusal}
use Rattle.session_alike.proofs.Vocabulary.{Verdict, first_fault, verdicts, Deed, Outcome, finished, left_acts}
use Rattle.session_alike.proofs.Vocabulary.{left_acts_of, refused, where_passed, Client, Tables, focused, is_in_focus}
use Rattle.session_alike.proofs.Vocabulary.{EventValue, Reply, Renaming, act_as, refusal_as, verdict_as, ClientsAlike}
use Rattle.session_alike.proofs.Vocabulary.{TablesAlike, HistoriesAlike, EffectsAlike, RepliesAlike, cases_as, if_as}
use Rattle.session_alike.proofs.Vocabulary.{map_append}
use Rattle.acl.specs.declared.act.Act.TheVariants as act
use Rattle.session_alike.proofs.Changing.{DeedsAlike, tables_as}
use Rattle.session_alike.proofs.Checking.{check_as, fault_alike, verdicts_alike}
use Rattle.session_alike.proofs.Finding.{focused_as, in_focus_as}
use Rattle.session_alike.proofs.Histories.{all_alike}

pub record OutcomesAlike (n : Renaming) (event : EventValue) (o p : Outcome) : Type 0 where
  pub reply : RepliesAlike n event o.reply p.reply
  pub acts : p.acts ≡ map (act_as n) o.acts
  pub verdicts : p.verdicts ≡ map (verdict_as n) o.verdicts
  pub effects : Matched (EffectsAlike n) o.effects p.effects
  pub tables : TablesAlike n o.tables p.tables

module _ (n : Renaming) where
  -- ---- leaving

  leaver_alike : (c d : Client) → ClientsAlike n c d → (cs ds xs ys : List Client) → Matched (ClientsAlike n) cs ds
      → Matched (ClientsAlike n) xs ys
      → left_acts_of d (focused d) ds ys ≡ map (act_as n) (left_acts_of c (focused c) cs xs)
  leaver_alike c d r cs ds xs ys m k = ap (λ o. left_acts_of d o ds ys) (focused_as n c d r.layout) ∙ on (focused c)
    where
      on : (o : Option ℕ) → left_acts_of d (option_map n.window o) ds ys ≡ map (act_as n) (left_acts_of c o cs xs)
      on None = refl
      on (Some w) =
          let stays = is_in_focus cs c.user w || is_in_focus xs c.user w in
          let goes = if_as (map (act_as n)) stays [] (act.Left c.user w ∷ []) in
          cc (r.user, in_focus_as n cs ds m c.user w, in_focus_as n xs ys k c.user w, goes)

  left_alike : (cs ds xs ys : List Client) → Matched (ClientsAlike n) cs ds → Matched (ClientsAlike n) xs ys
      → left_acts ds ys ≡ map (act_as n) (left_acts cs xs)
  left_alike [] [] xs ys m k = refl
  left_alike (c ∷ cs) (d ∷ ds) xs ys m k =
      map_append (act_as n) (left_acts_of c (focused c) cs xs) (left_acts cs xs) _ _
      (leaver_alike c d m.0 cs ds xs ys m.1 k) (left_alike cs ds xs ys m.1 k)
  left_alike cs ds xs ys m k = absurd m

  -- ---- outcomes

  -- tables with more acts
  acts_alike : (t u : Tables) (h g : History) (acts others : List Act) → TablesAlike n t u → t.acts ≡ h → u.acts ≡ g
      → others ≡ map (act_as n) acts
      → TablesAlike n (record t { acts = followed_by h acts }) (record u { acts = followed_by g others })
  acts_alike t u h g acts others a kept kept_too same = tables_as a.owner a.edition a.is_multiuser
      (subst (λ x. HistoriesAlike n t.edition t.owner (followed_by x acts) (followed_by g others)) kept
      (subst (λ x. HistoriesAlike n t.edition t.owner (followed_by t.acts acts) (followed_by x others)) kept_too
      (subst (λ xs. HistoriesAlike n t.edition t.owner (followed_by t.acts acts) (followed_by u.acts xs)) (sym same)
      (all_alike n t.edition t.owner t.acts u.acts acts a.acts)))) a.windows a.clients a.next_windows a.next_clients

  module _ (t u : Tables) (a : TablesAlike n t u) (event : EventValue) where
    pub finished_alike : (vs ws : List Verdict) (r s : Reply) (d e : Deed) → ws ≡ map (verdict_as n) vs
        → RepliesAlike n event r s → DeedsAlike n t.acts u.acts d e
        → OutcomesAlike n event (finished t vs r d) (finished u ws s e)
    finished_alike vs ws r s d e verdicts replies alike =
        let acts : e.acts ++ left_acts u.clients e.tables.clients
        ≡ map (act_as n) (d.acts ++ left_acts t.clients d.tables.clients) =
        map_append (act_as n) d.acts (left_acts t.clients d.tables.clients) _ _ alike.acts
        (left_alike t.clients u.clients d.tables.clients e.tables.clients a.clients alike.tables.clients) in
        record {
          reply = replies;
          acts = acts;
          verdicts = verdicts;
          effects = alike.effects;
          tables = acts_alike d.tables e.tables t.acts u.acts _ _ alike.tables alike.kept alike.kept_too acts;
        }

    pub refused_alike : (vs ws : List Verdict) (r s : Refusal) → ws ≡ map (verdict_as n) vs → s ≡ refusal_as n r
        → OutcomesAlike n event (refused t vs r) (refused u ws s)
    refused_alike vs ws r s verdicts same =
        record { reply = same; acts = refl; verdicts = verdicts; effects = tt; tables = a }

    pub passed_alike : (cs ds : List Check) (r s : Reply) (d e : Deed) → ds ≡ map (check_as n) cs
        → RepliesAlike n event r s → DeedsAlike n t.acts u.acts d e
        → OutcomesAlike n event (where_passed t cs r d) (where_passed u ds s e)
    passed_alike cs ds r s d e checks replies alike =
        subst (λ xs. OutcomesAlike n event (where_passed t cs r d) (where_passed u xs s e)) (sym checks)
        (cases_as (OutcomesAlike n event) (refusal_as n) _ (first_fault t cs) _ (fault_alike n t u a cs)
        (finished_alike (verdicts t cs) _ r s d e (verdicts_alike n t u a cs) replies alike)
        (λ q. refused_alike (verdicts t cs) _ q _ (verdicts_alike n t u a cs) refl))
