-- What a client with keys of its own sends.
use Rattle.std.proofs.Common.{◌≡◌, ◌∙◌, ℕ, ◌-◌, ◌<◌, List, [], ◌++◌, length, true, false, refl, sym, ap, subst, arith}
use Rattle.std.proofs.Common.{Option, None, Result, Ok, Err}
use Rattle.std.specs.Prelude.{OnOk}
use Rattle.attach_proto.specs.declared.kind.Kind.TheVariants.{Keys}
use Rattle.attach_proto.specs.declared.message.Message.TheVariants.{Resize}
use Rattle.attach_proto.specs.Spelling.{spelling}
use Rattle.client_notice.specs.Notices.{IsNew, scrolled}
use Rattle.client_typing.specs.Assisting.{Assists, Makes, at}
use Rattle.client_typing.specs.declared.typing.Typing.{Typing}
use Rattle.client_typing.specs.Following.{IsSet}
use Rattle.client_words.specs.declared.leaving.LeaveReader.{LeaveReader}
use Rattle.client_peer.specs.declared.peer.Peer.{Peer}
use Rattle.client_typing.specs.Framing.{Sends}
use Rattle.client_peer.specs.Showing.{IsUncovered, ShowsHelp, helping}
use Rattle.client_peer.specs.Typing.{Presses, SendsAssisted, TellsScrolled, Types, longest_key, pressing, reading}
use Rattle.client_peer.proofs.Passing.{passes_keeps, passes_then}
use Rattle.client_peer.proofs.Waiting.{not_none}

-- the help is shown after what put nothing down for the terminal
shows_after : (old other new : Peer) → ShowsHelp
    (record old { typing = other.typing; frames = other.frames; notice = other.notice; times = other.times }) new
    → ShowsHelp old new
shows_after old other new h =
    let middle : Peer =
    record old { typing = other.typing; frames = other.frames; notice = other.notice; times = other.times } in record {
      shows = λ free.
          let s = h.shows free in (
            s.0,
            s.1,
            passes_then old middle new
                (passes_keeps old middle (record { subcommand = refl; draws = refl; kept = refl })) s.2,
            s.3,
            s.4,
            s.5,
          );
      stays = h.stays;
    }

-- keys were put down, then it was told how far the view was moved, and then the help was shown, perhaps
pub sends_assisted : {T E : Type 0} (r : Result T E) (old second third new : Peer) (t : Typing) (keys sent out : List ℕ)
    → Assists (old.rows - 3) old.typing keys [] t out → second ≡ record old { typing = t; frames = second.frames }
    → Sends old.frames.items second.frames.items Keys sent → sent ≡ out
    → third ≡ record second { frames = third.frames; notice = third.notice }
    → TellsScrolled second third old.typing.back second.frames.items → new ≡ helping third new
    → (third.typing.asks_help ≡ true → OnOk r (ShowsHelp third new))
    → (third.typing.asks_help ≡ false → OnOk r (IsUncovered third new)) → OnOk r (SendsAssisted old new keys)
sends_assisted (Err e) old second third new t keys sent out a first sends is told tells last helps other = tt
sends_assisted (Ok x) old second third new t keys sent out a first sends is told tells last helps other =
    let whole : third ≡ record old { typing = t; frames = third.frames; notice = third.notice } =
    told ∙ ap (λ (p : Peer). record p { frames = third.frames; notice = third.notice }) first in
    let typing : new.typing ≡ t = ap (λ (p : Peer). p.typing) last ∙ ap (λ (p : Peer). p.typing) whole in
    let back : third.typing.back ≡ new.typing.back = sym (ap (λ (p : Peer). p.typing.back) last) in
    let asks : third.typing.asks_help ≡ new.typing.asks_help = sym (ap (λ (p : Peer). p.typing.asks_help) last) in
    let framed : new.frames.items ≡ third.frames.items = ap (λ (p : Peer). p.frames.items) last in
    let noted : new.notice ≡ third.notice = ap (λ (p : Peer). p.notice) last in
    let scrolls : TellsScrolled (record old { typing = t; frames = second.frames }) third old.typing.back
    second.frames.items =
    subst (λ (p : Peer). TellsScrolled p third old.typing.back second.frames.items) first tells in
    record {
      sent = a.sent;
      frames = second.frames.items;
      makes = subst (λ (s : Typing). Makes (old.rows - 3) (at old.typing) keys a.sent (at s)) (sym typing) a.makes;
      sends = subst (λ (l : List ℕ). Sends old.frames.items second.frames.items Keys l) (is ∙ a.added) sends;
      tells = record {
        same = λ e.
            (framed ∙ (scrolls.same (back ∙ e)).0, noted ∙ (scrolls.same (back ∙ e)).1);
        end = λ moved e.
            let h = scrolls.end (λ b. moved (sym back ∙ b)) (back ∙ e) in
            (framed ∙ h.0, ap (λ n. n.stage) noted ∙ h.1);
        back = λ moved far.
            let h = scrolls.back (λ b. moved (sym back ∙ b)) (λ z. far (sym back ∙ z)) in (
              framed ∙ h.0,
              subst (λ n. IsNew (scrolled new.typing.back) n) (sym noted)
                  (subst (λ b. IsNew (scrolled b) third.notice) back h.1),
            );
      };
      helps = λ e.
          shows_after old (record third { typing = t; times = old.times }) new
          (subst (λ (p : Peer). ShowsHelp p new) whole (helps (asks ∙ e)));
      other = λ e.
          subst (λ (p : Peer). IsUncovered p new) whole (other (asks ∙ e));
    }

-- what was read stays as it is while keys are pressed
read_is : (old new t : Typing) (reads : ℕ) → t ≡ record old { leave = t.leave; reads = reads } → IsSet t new
    → t ≡ record old { leave = new.leave; reads = new.reads }
read_is old new t reads same set =
    same ∙ ap (λ (l : Option LeaveReader). record old { leave = l; reads = reads }) (sym set.0)
    ∙ ap (λ (n : ℕ). record old { leave = new.leave; reads = n }) (sym (set.2 ∙ ap (λ (s : Typing). s.reads) same))

module _ (old new : Peer) (t : Typing) (reads : ℕ) (same : t ≡ record old.typing { leave = t.leave; reads = reads })
    (set : IsSet t new.typing) where
  pub reading_is : record old { typing = t } ≡ reading old new
  reading_is = ap (λ (s : Typing). record old { typing = s }) (read_is old.typing new.typing t reads same set)

  pub pressing_is : record old { typing = t; times = record old.times { has_typed = true } } ≡ pressing old new
  pressing_is = ap (λ (s : Typing). record old { typing = s; times = record old.times { has_typed = true } })
      (read_is old.typing new.typing t reads same set)

-- keys are typed after the help was taken away, or at once
pub presses : {T E : Type 0} (r : Result T E) (old page new : Peer) (typed : List ℕ) → old.loss ≡ None
    → (new.is_final ≡ old.is_final) × (new.end ≡ old.end) → (old.is_helping ≡ false → page ≡ old)
    → (old.is_helping ≡ true → (page.frames.items ≡ old.frames.items ++ spelling (Resize old.rows old.columns))
    × (page ≡ record old { frames = page.frames; is_helping = false; is_covered = old.is_cut })
    × (longest_key < length typed)) → OnOk r (Types page new typed) → OnOk r (Presses old new typed)
presses (Err e) old page new typed here lasts free helped t = tt
presses (Ok x) old page new typed here lasts free helped t = record {
  types = λ h shown. subst (λ (p : Peer). Types p new typed) (free shown) t;
  helped = λ h is. record {
    page = page;
    asks = (helped is).0;
    goes = (helped is).1;
    key = λ few. absurd (omega (arith, few, (helped is).2));
    more = λ many. t;
  };
  lost = λ some. absurd (not_none old.loss here some);
  ends = λ some c. absurd (not_none old.loss here some);
  lasts = λ no. lasts;
}
