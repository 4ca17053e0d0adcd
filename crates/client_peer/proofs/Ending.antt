-- How a peer ends as time goes by.
use Rattle.std.proofs.Common.{◌≡◌, ◌∙◌, refl, sym, ap, subst, inl, inr, ◌⊎◌, ℕ, true, None, Some, Option, IsSome}
use Rattle.std.proofs.Common.{Result, Err}
use Rattle.std.specs.Option.{option_or}
use Rattle.attach_proto.specs.declared.why.Why.{Why}
use Rattle.client_words.specs.declared.fault.PeerFault.{PeerFault}
use Rattle.client_words.specs.declared.fault.PeerFault.TheVariants.{NoAnswer}
use Rattle.client_peer.specs.declared.peer.Peer.{Peer}
use Rattle.client_peer.specs.Looking.{EndsInTime, IsLate, leaving}
use Rattle.client_peer.specs.Returning.{AtLoss, GivesUp, IsOver}
use Rattle.client_peer.proofs.Waiting.{false_true}

abbrev End : Type 0
End = Option (Result Why PeerFault)

or_cases : (o x : End) → (option_or o x ≡ o) ⊎ (option_or o x ≡ x)
or_cases None x = inr refl
or_cases (Some r) x = inl refl

or_first : (o x : End) → IsSome o → option_or o x ≡ o
or_first None x some = absurd (false_true some)
or_first (Some r) x some = refl

or_some : (o x : End) → IsSome x → IsSome (option_or o x)
or_some None x some = some
or_some (Some r) x some = refl

-- what comes of an answer that was waited for
pub record Awaits (old : Peer) (now : ℕ) (new : Peer) : Type 0 where
  pub end : (new.end ≡ old.end) ⊎ (IsLate old now × (new.end ≡ Some (Err NoAnswer)))
  pub keeps : IsSome old.end → new.end ≡ old.end
  pub late : IsLate old now → IsSome new.end
  pub rest : new ≡ record old { end = new.end }

pub awaits_late : (old new : Peer) (now : ℕ) → IsLate old now
    → new ≡ record old { end = option_or old.end (Some (Err NoAnswer)) } → Awaits old now new
awaits_late old new now late same =
    let no : End = Some (Err NoAnswer) in
    let is : new.end ≡ option_or old.end no = ap (λ (p : Peer). p.end) same in record {
      end = elim (or_cases old.end no) [ inl e ↦ inl (is ∙ e) | inr e ↦ inr (late, is ∙ e) ];
      keeps = λ some. is ∙ or_first old.end no some;
      late = λ l. subst IsSome (sym is) (or_some old.end no refl);
      rest = same ∙ ap (λ (e : End). record old { end = e }) (sym is);
    }

pub awaits_none : (old new : Peer) (now : ℕ) → (IsLate old now → ⊥) → new ≡ old → Awaits old now new
awaits_none old new now none same = record {
  end = inl (ap (λ (p : Peer). p.end) same);
  keeps = λ some. ap (λ (p : Peer). p.end) same;
  late = λ l. absurd (none l);
  rest = subst (λ (p : Peer). p ≡ record old { end = p.end }) (sym same) refl;
}

module _ (old first second third new : Peer) (now : ℕ) (same : first ≡ leaving old first)
    (lost : AtLoss first now second) (awaits : Awaits second now third) (end : new.end ≡ third.end)
    (final : new.is_final ≡ third.is_final) where
  second_is : second ≡ record (leaving old first) { is_final = second.is_final; end = second.end }
  second_is = lost.rest ∙ ap (λ (q : Peer). record q { is_final = second.is_final; end = second.end }) same

  final_is : new.is_final ≡ second.is_final
  final_is = final ∙ ap (λ (p : Peer). p.is_final) awaits.rest

  over_first : IsOver old now → IsOver first now
  over_first o = subst (λ (p : Peer). IsOver p now) (sym same) o

  over_end : IsOver old now → second.end ≡ old.loss
  over_end o = lost.over (over_first o) ∙ ap (λ (p : Peer). p.loss) same

  ends_how : (new.end ≡ old.end)
      ⊎ ((GivesUp old now × (new.end ≡ old.loss)) ⊎ (IsLate old now × (new.end ≡ Some (Err NoAnswer))))
  unfolding second_is
  ends_how = elim awaits.end [
    | inl is ↦ elim lost.end [
      | inl stays ↦ inl (end ∙ is ∙ stays ∙ ap (λ (p : Peer). p.end) same)
      | inr gives ↦ inr (inl (
        subst (λ (p : Peer). GivesUp p now) same gives.0,
        end ∙ is ∙ gives.1 ∙ ap (λ (p : Peer). p.loss) same,
      ))
    ]
    | inr late ↦ inr (inr (subst (λ (p : Peer). IsLate p now) second_is late.0, end ∙ late.1))
  ]

  final_how : new.is_final ≡ true → (old.is_final ≡ true) ⊎ IsOver old now
  final_how f = elim (lost.final.0 (sym final_is ∙ f)) [
    | inl was ↦ inl (sym (ap (λ (p : Peer). p.is_final) same) ∙ was)
    | inr over ↦ inr (subst (λ (p : Peer). IsOver p now) same over)
  ]

  pub ends_in_time : EndsInTime old now new
  ends_in_time = record {
    end = ends_how;
    final = final_how;
    lasts = λ f. final_is ∙ lost.final.1 (inl (ap (λ (p : Peer). p.is_final) same ∙ f));
    over = λ none o. (
      final_is ∙ lost.final.1 (inr (over_first o)),
      end ∙ awaits.keeps (subst IsSome (sym (over_end o)) o.0) ∙ over_end o,
    );
    late = λ none l.
        subst IsSome (sym end) (awaits.late (subst (λ (p : Peer). IsLate p now) (sym second_is) l));
  }
