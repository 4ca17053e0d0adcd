-- Keys do the same in sessions that are alike.
use Rattle.session_alike.proofs.Vocabulary.{◌≡◌, ℕ, List, [], ◌∷◌, ◌++◌, Option, Some, None, Ok, Err, Result, inl, inr}
use Rattle.session_alike.proofs.Vocabulary.{refl, ap, sym, ◌∙◌, subst, map, length, take, option_map, UserId, Order}
use Rattle.session_alike.proofs.Vocabulary.{ParseFault, Item, bound, line, BothOrNone, Matched, Input, Say}
use Rattle.session_alike.proofs.Vocabulary.{StatusMessage, Refusal, Ordered, by_line, by_ruling, input_in, keyed}
use Rattle.session_alike.proofs.Vocabulary.{keys_outcome, message_of, ordered, reading, says, says_why, told, types}
use Rattle.session_alike.proofs.Vocabulary.{typing_verdicts, line_ruling, unsaid, with_listed, checks, first_fault}
use Rattle.session_alike.proofs.Vocabulary.{typing_checks, verdicts, Ruling, ruling, Answer, Deed, changing, hearing}
use Rattle.session_alike.proofs.Vocabulary.{command_item, items_behind, taken, typed_bytes, Caller, caller_of}
use Rattle.session_alike.proofs.Vocabulary.{read_line, Outcome, finished, reply_of, Client, Tables, Window, client_at}
use Rattle.session_alike.proofs.Vocabulary.{focused_window, with_client, text_of, EventValue, Renaming, refusal_as}
use Rattle.session_alike.proofs.Vocabulary.{verdict_as, ClientsAlike, TablesAlike, TextsAlike, WindowsAlike}
use Rattle.session_alike.proofs.Vocabulary.{EffectsAlike, made_as, append_match, cases_as, cases_both, map_append}
use Rattle.session_alike.proofs.Vocabulary.{weaker_match}
use Rattle.command_lang.specs.declared.command.Command.TheVariants as command
use Rattle.session_model.specs.declared.event.StatusMessage.TheVariants as message
use Rattle.session_alike.proofs.Changing.{AnswersAlike, DeedsAlike, clients_as, declined, deed_as, done, heard_alike}
use Rattle.session_alike.proofs.Changing.{put_client_alike}
use Rattle.session_alike.proofs.Checking.{CallersAlike, check_as, checks_alike, fault_alike, typing_as, verdicts_alike}
use Rattle.session_alike.proofs.Finding.{client_alike, focus_alike}
use Rattle.session_alike.proofs.Keying.{behind_same, rest_same, taken_same}
use Rattle.session_alike.proofs.Listing.{text_same}
use Rattle.session_alike.proofs.Lists.{Same}
use Rattle.session_alike.proofs.Outcomes.{OutcomesAlike, finished_alike}
use Rattle.session_alike.proofs.Rows.{ListedBy, does_alike}
use Rattle.session_alike.proofs.Saying.{TypedAlike, typed_alike, unsaid_both}

-- what a command lists becomes the same message
listed_message : (n : Renaming) (c : Order) (x y : List ℕ) → ListedBy n c x y → message_of c y ≡ message_of c x
listed_message n command.Displays x y same = refl
listed_message n command.Windows x y same = refl
listed_message n (command.Acladd names) x y same = ap message.Text same
listed_message n _ x y same = ap message.Text same

pub listed_text : (n : Renaming) (c : Order) (x y : List ℕ) → ListedBy n c x y → TextsAlike n x y
listed_text n command.Displays x y lists = inr lists
listed_text n (command.Acladd names) x y same = inl same
listed_text n _ x y same = inl same

module _ (n : Renaming) where
  -- ---- a ruling
  module _ (t u : Tables) (a : TablesAlike n t u) where
    pub record RulingsAlike (T : List ℕ → List ℕ → Type 0) (r s : Ruling) : Type 0 where
      pub verdicts : s.verdicts ≡ map (verdict_as n) r.verdicts
      pub answer : AnswersAlike n T t.acts u.acts r.answer s.answer

    pub ruling_alike : (k l : Caller) → CallersAlike n k l → (c : Order)
        → RulingsAlike (ListedBy n c) (ruling t k c) (ruling u l c)
    ruling_alike k l r c = record {
      verdicts = ap (verdicts u) (checks_alike n t u a k l r c) ∙ verdicts_alike n t u a (checks t k c);
      answer = cases_as (AnswersAlike n (ListedBy n c) t.acts u.acts) (refusal_as n) _ (first_fault t (checks t k c)) _
          (ap (first_fault u) (checks_alike n t u a k l r c) ∙ fault_alike n t u a (checks t k c))
          (does_alike n t u a k l r c) (λ q. declined refl);
    }

    -- ---- messages

    told_alike : (client : ℕ) (m : StatusMessage) → TablesAlike n (told t client m) (told u (n.client client) m)
    told_alike client m =
        cases_both (TablesAlike n) (client_at t client) (client_at u (n.client client)) (client_alike n t u a client) a
        (λ c d r. put_client_alike n t u a (hearing m c) (hearing m d) (heard_alike n m c d r))

    told_acts : (x : Tables) (client : ℕ) (m : StatusMessage) → (told x client m).acts ≡ x.acts
    told_acts x client m = on (client_at x client) where
      on : (o : Option Client)
          → (elim o as (λ _. Tables) [ None ↦ x | Some c ↦ with_client x (hearing m c) ]).acts ≡ x.acts
      on None = refl
      on (Some c) = refl

    pub says_alike : (client : ℕ) (m : StatusMessage) (x y : List ℕ) → TextsAlike n x y
        → DeedsAlike n t.acts u.acts (says t client m x) (says u (n.client client) m y)
    says_alike client m x y same = record {
      acts = refl;
      tables = told_alike client m;
      effects = ((y, refl, same), tt);
      kept = told_acts t client m;
      kept_too = told_acts u (n.client client) m;
    }

    says_why_alike : (client : ℕ) (r s : Refusal) → s ≡ refusal_as n r
        → DeedsAlike n t.acts u.acts (says_why t client r) (says_why u (n.client client) s)
    says_why_alike client r s same =
        subst (λ x. DeedsAlike n t.acts u.acts (says_why t client r)
        (says u (n.client client) (message.Text x) x)) (sym (ap text_of same ∙ text_same n r))
        (says_alike client (message.Text (text_of r)) (text_of r) (text_of r) (inl refl))

    -- ---- typed bytes

    module _ (c d : Client) (r : ClientsAlike n c d) where
      typing_checks_alike : typing_checks d.user (focused_window u d)
          ≡ map (check_as n) (typing_checks c.user (focused_window t c))
      typing_checks_alike =
          ap (λ (v : UserId). typing_checks v (focused_window u d)) r.user
          ∙ typing_as n c.user (focused_window t c) (focused_window u d) (focus_alike n t u a c d r)

      typing_fault : first_fault u (typing_checks d.user (focused_window u d))
          ≡ option_map (refusal_as n) (first_fault t (typing_checks c.user (focused_window t c)))
      typing_fault = ap (first_fault u) typing_checks_alike
          ∙ fault_alike n t u a (typing_checks c.user (focused_window t c))

      pub typed_verdicts : (bytes : List ℕ)
          → typing_verdicts u d bytes ≡ map (verdict_as n) (typing_verdicts t c bytes)
      typed_verdicts [] = refl
      typed_verdicts (b ∷ bytes) = ap (verdicts u) typing_checks_alike
          ∙ verdicts_alike n t u a (typing_checks c.user (focused_window t c))

      -- what typing does, with its effects
      pub record TypingAlike (x y : Deed) : Type 0 where
        pub deed : DeedsAlike n t.acts u.acts x y
        pub said : Matched (TypedAlike n) x.effects y.effects

      input_both : (o p : Option Window) (bytes : List ℕ) → BothOrNone (WindowsAlike n) o p
          → Matched (TypedAlike n) (input_in o bytes) (input_in p bytes)
      input_both None None bytes m = tt
      input_both (Some w) (Some v) bytes m = (ap (λ s. Input s bytes) m.serial, tt)
      input_both o p bytes m = absurd m

      refused_typing : (q : Refusal)
          → TypingAlike (says_why t c.serial q) (says_why u d.serial (refusal_as n q))
      refused_typing q =
          subst (λ s. TypingAlike (says_why t c.serial q) (says_why u s (refusal_as n q))) (sym r.serial) (record {
            deed = says_why_alike c.serial q (refusal_as n q) refl;
            said = ((q, refl, ap (Say (n.client c.serial)) (text_same n q)), tt);
          })

      pub types_alike : (bytes : List ℕ) → TypingAlike (types t c bytes) (types u d bytes)
      types_alike [] = record { deed = deed_as refl a tt; said = tt }
      types_alike (b ∷ bytes) =
          let inputs : Matched (TypedAlike n) (input_in (focused_window t c) (b ∷ bytes))
          (input_in (focused_window u d) (b ∷ bytes)) =
          input_both (focused_window t c) (focused_window u d) (b ∷ bytes) (focus_alike n t u a c d r) in
          cases_as TypingAlike (refusal_as n) _ (first_fault t (typing_checks c.user (focused_window t c))) _
          typing_fault
          (record {
            deed = deed_as refl a (weaker_match (TypedAlike n) (EffectsAlike n) (typed_alike n) _ _ inputs);
            said = inputs;
          }) refused_typing

  -- ---- what a command that came by keys does

  pub record OrdersAlike (t u : Tables) (o p : Ordered) : Type 0 where
    pub verdicts : p.verdicts ≡ map (verdict_as n) o.verdicts
    pub deed : DeedsAlike n t.acts u.acts o.deed p.deed

  listed_alike : (t u : Tables) (T : List ℕ → List ℕ → Type 0) (client : ℕ) (m : List ℕ → StatusMessage)
      → ((x y : List ℕ) → T x y → m y ≡ m x) → ((x y : List ℕ) → T x y → TextsAlike n x y) → (d e : Deed)
      → DeedsAlike n t.acts u.acts d e → (o p : Option (List ℕ)) → BothOrNone T o p
      → DeedsAlike n t.acts u.acts (with_listed client m o d) (with_listed (n.client client) m p e)
  listed_alike t u T client m messages texts d e alike None None ls = alike
  listed_alike t u T client m messages texts d e alike (Some x) (Some y) ls =
      let s : DeedsAlike n d.tables.acts e.tables.acts (says d.tables client (m x) x)
      (says e.tables (n.client client) (m y) y) =
      subst (λ z. DeedsAlike n d.tables.acts e.tables.acts (says d.tables client (m x) x)
      (says e.tables (n.client client) z y)) (sym (messages x y ls))
      (says_alike d.tables e.tables alike.tables client (m x) x y (texts x y ls)) in record {
        acts = alike.acts;
        tables = s.tables;
        effects = append_match (EffectsAlike n) d.effects _ e.effects _ alike.effects s.effects;
        kept = s.kept ∙ alike.kept;
        kept_too = s.kept_too ∙ alike.kept_too;
      }
  listed_alike t u T client m messages texts d e alike o p ls = absurd ls

  keyed_alike : (t u : Tables) → TablesAlike n t u → (T : List ℕ → List ℕ → Type 0) (client : ℕ)
      (m : List ℕ → StatusMessage)
      → ((x y : List ℕ) → T x y → m y ≡ m x) → ((x y : List ℕ) → T x y → TextsAlike n x y) → (x y : Answer)
      → AnswersAlike n T t.acts u.acts x y
      → DeedsAlike n t.acts u.acts (keyed t client m x) (keyed u (n.client client) m y)
  keyed_alike t u a T client m messages texts _ _ (done {d = d} {e = e} alike ls) =
      listed_alike t u T client m messages texts d e alike d.lists e.lists ls
  keyed_alike t u a T client m messages texts _ _ (declined {r = r} {s = s} same) = says_why_alike t u a client r s same

  module _ (t u : Tables) (a : TablesAlike n t u) (c d : Client) (r : ClientsAlike n c d) where
    caller_as : CallersAlike n (caller_of t c) (caller_of u d)
    caller_as = record { user = r.user; client = ap Some r.serial; window = focus_alike n t u a c d r }

    ordered_by : (T : List ℕ → List ℕ → Type 0) (m : List ℕ → StatusMessage)
        → ((x y : List ℕ) → T x y → m y ≡ m x) → ((x y : List ℕ) → T x y → TextsAlike n x y) → (q s : Ruling)
        → RulingsAlike t u a T q s → OrdersAlike t u (by_ruling t c m q) (by_ruling u d m s)
    ordered_by T m messages texts q s rulings = record {
      verdicts = rulings.verdicts;
      deed = subst (λ k. DeedsAlike n t.acts u.acts (keyed t c.serial m q.answer) (keyed u k m s.answer)) (sym r.serial)
          (keyed_alike t u a T c.serial m messages texts q.answer s.answer rulings.answer);
    }

    by_line_alike : (x : Result Order ParseFault) → OrdersAlike t u (by_line t c x) (by_line u d x)
    by_line_alike (Err f) =
        ordered_by Same message.Text (λ x y same. ap message.Text same) (λ x y same. inl same)
        (line_ruling t (caller_of t c) (Err f)) (line_ruling u (caller_of u d) (Err f))
        (record { verdicts = refl; answer = declined refl })
    by_line_alike (Ok order) =
        ordered_by (ListedBy n order) (message_of order) (listed_message n order) (listed_text n order)
        (ruling t (caller_of t c) order) (ruling u (caller_of u d) order)
        (ruling_alike t u a (caller_of t c) (caller_of u d) caller_as order)

    nothing_ordered : OrdersAlike t u (record { verdicts = []; deed = changing t })
        (record { verdicts = []; deed = changing u })
    nothing_ordered = record { verdicts = refl; deed = deed_as refl a tt }

    pub ordered_alike : (o : Option Item) → OrdersAlike t u (ordered t c o) (ordered u d o)
    ordered_alike (Some (bound order)) = by_line_alike (Ok order)
    ordered_alike (Some (line (b ∷ bytes))) = by_line_alike (read_line (b ∷ bytes))
    ordered_alike (Some (line [])) = nothing_ordered
    ordered_alike _ = nothing_ordered

  -- ---- keys

  pub reading_alike : (bytes : List ℕ) (c d : Client) → ClientsAlike n c d
      → ClientsAlike n (reading bytes c) (reading bytes d)
  reading_alike bytes c d r = clients_as r.serial r.user r.rows r.columns
      (rest_same c.keys d.keys r.keys bytes) r.layout r.last r.former refl

  -- what is done with keys that complete these items
  abbrev done_with : Tables → Client → List ℕ → List Item → Outcome
  done_with t c bytes given =
      let d : Client = reading bytes c in
      let typing : Deed = types (with_client t d) d (typed_bytes given) in
      let order : Ordered = ordered typing.tables d (command_item given) in
      finished t (typing_verdicts t c (typed_bytes given) ++ order.verdicts) (reply_of (length bytes) 0 0 None)
      (record order.deed { effects = typing.effects ++ unsaid typing.effects order.deed.effects })

  module _ (t u : Tables) (a : TablesAlike n t u) (c d : Client) (r : ClientsAlike n c d) (event : EventValue)
      (made : made_as n event 0 ≡ 0) where
    with_alike : (bytes : List ℕ) (given : List Item)
        → OutcomesAlike n event (done_with t c bytes given) (done_with u d bytes given)
    with_alike bytes given =
        let e : Client = reading bytes c in
        let f : Client = reading bytes d in
        let s : ClientsAlike n e f = reading_alike bytes c d r in
        let b : TablesAlike n (with_client t e) (with_client u f) = put_client_alike n t u a e f s in
        let x : Deed = types (with_client t e) e (typed_bytes given) in
        let y : Deed = types (with_client u f) f (typed_bytes given) in
        let typing : TypingAlike (with_client t e) (with_client u f) b e f s x y =
        types_alike (with_client t e) (with_client u f) b e f s (typed_bytes given) in
        let o : Ordered = ordered x.tables e (command_item given) in
        let p : Ordered = ordered y.tables f (command_item given) in
        let order : OrdersAlike x.tables y.tables o p =
        ordered_alike x.tables y.tables typing.deed.tables e f s (command_item given) in
        finished_alike n t u a event (typing_verdicts t c (typed_bytes given) ++ o.verdicts)
        (typing_verdicts u d (typed_bytes given) ++ p.verdicts) (reply_of (length bytes) 0 0 None)
        (reply_of (length bytes) 0 0 None)
        (record o.deed { effects = x.effects ++ unsaid x.effects o.deed.effects })
        (record p.deed { effects = y.effects ++ unsaid y.effects p.deed.effects })
        (map_append (verdict_as n) (typing_verdicts t c (typed_bytes given)) o.verdicts _ _
        (typed_verdicts t u a c d r (typed_bytes given)) order.verdicts)
        (record { taken = refl; made = sym made; number = refl; text = tt }) (record {
          acts = order.deed.acts;
          tables = order.deed.tables;
          effects = append_match (EffectsAlike n) x.effects _ y.effects _ typing.deed.effects
              (unsaid_both n x.effects y.effects typing.said o.deed.effects p.deed.effects order.deed.effects);
          kept = order.deed.kept ∙ typing.deed.kept;
          kept_too = order.deed.kept_too ∙ typing.deed.kept_too;
        })

    pub keys_alike : (bytes : List ℕ)
        → OutcomesAlike n event (keys_outcome t c (take (taken c.keys bytes) bytes))
        (keys_outcome u d (take (taken d.keys bytes) bytes))
    keys_alike bytes =
        subst (λ k. OutcomesAlike n event (keys_outcome t c (take (taken c.keys bytes) bytes))
        (keys_outcome u d (take k bytes))) (sym (taken_same c.keys d.keys r.keys bytes))
        (subst (λ given. OutcomesAlike n event (keys_outcome t c (take (taken c.keys bytes) bytes))
        (done_with u d (take (taken c.keys bytes) bytes) given))
        (sym (behind_same c.keys d.keys r.keys (take (taken c.keys bytes) bytes)))
        (with_alike (take (taken c.keys bytes) bytes) (items_behind c.keys (take (taken c.keys bytes) bytes))))
