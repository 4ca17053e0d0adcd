-- If words have no fault, the table wants them, and they mean a command.
use Rattle.command_lang.proofs.Vocabulary.{◌≡◌, ℕ, ◌+◌, Bool, true, false, cond, List, [], ◌∷◌, ◌++◌, refl, sym, ap}
use Rattle.command_lang.proofs.Vocabulary.{◌∙◌, Option, Some, None, option_to_list, true≢false, ◌<◌, arith, nat_lt, not}
use Rattle.command_lang.proofs.Vocabulary.{◌||◌, nat_tests, is_some, option_map, CommandName, Words, Word, FaultKind}
use Rattle.command_lang.proofs.Vocabulary.{ParseFault, Command, unless, number_in, is_number, number_after, is_vertical}
use Rattle.command_lang.proofs.Vocabulary.{takes, least, kind_at, kind_fault, at_place, word_fault, words_faults}
use Rattle.command_lang.proofs.Vocabulary.{first_of, bare, with_word, with_words, command_of, texts_of}
use Rattle.acl.specs.declared.command_name.CommandName.TheVariants as name
use Rattle.command_lang.specs.declared.rows.Kind.{Kind}
use Rattle.command_lang.specs.declared.rows.Words.TheVariants.{Nothing, One, Perhaps, OneOrTwo, Three, Several}
use Rattle.command_lang.specs.declared.fault.FaultKind.TheVariants as faults
use Rattle.command_lang.specs.declared.command.Command.TheVariants as command

-- each text is of the kind that its row wants
abbrev pub AllFit : Kind → List (List ℕ) → Type 0
AllFit k [] = Unit {0}
AllFit k (t ∷ ts) = (kind_fault k t ≡ None) × AllFit k ts

abbrev pub Fits : Words → List (List ℕ) → Type 0
Fits Nothing [] = Unit {0}
Fits (One a) (t ∷ []) = kind_fault a t ≡ None
Fits (Perhaps a) [] = Unit {0}
Fits (Perhaps a) (t ∷ []) = kind_fault a t ≡ None
Fits (OneOrTwo a b) (t ∷ []) = kind_fault a t ≡ None
Fits (OneOrTwo a b) (t ∷ u ∷ []) = (kind_fault a t ≡ None) × (kind_fault b u ≡ None)
Fits (Three a b c) (t ∷ u ∷ v ∷ []) = (kind_fault a t ≡ None) × (kind_fault b u ≡ None) × (kind_fault c v ≡ None)
Fits (Several a) (t ∷ ts) = AllFit a (t ∷ ts)
Fits _ _ = ⊥

split : (o : Option ParseFault) (fs : List ParseFault) → first_of (option_to_list o ++ fs) ≡ None → (o ≡ None)
    × (first_of fs ≡ None)
split None fs h = (refl, h)
split (Some f) fs h = absurd (true≢false (ap is_some h))

fitting : (k : Kind) (w : Word) → word_fault (Some k) w ≡ None → kind_fault k w.text ≡ None
fitting k w h = by w.is_closed (kind_fault k w.text) h
  where
    by : (b : Bool) (o : Option FaultKind) → at_place w.place (cond b o (Some faults.BadQuote)) ≡ None → o ≡ None
    by true None h = refl
    by true (Some f) h = absurd (true≢false (ap is_some h))
    by false o h = absurd (true≢false (ap is_some h))

extra : (w : Word) → word_fault None w ≡ None → ⊥
extra w h = by w.is_closed h
  where
    by : (b : Bool) → at_place w.place (cond b (Some faults.ExtraWord) (Some faults.BadQuote)) ≡ None → ⊥
    by true h = true≢false (ap is_some h)
    by false h = true≢false (ap is_some h)

-- one more word
more : (r : Words) (i end : ℕ) (w : Word) (ws : List Word) → first_of (words_faults r i end (w ∷ ws)) ≡ None
    → (word_fault (kind_at r i) w ≡ None) × (first_of (words_faults r (i + 1) end ws) ≡ None)
unfolding words_faults
more r i end w ws h = split (word_fault (kind_at r i) w) (words_faults r (i + 1) end ws) h

missing : (r : Words) (i end : ℕ) → nat_lt i (least r) ≡ true → first_of (words_faults r i end []) ≡ None → ⊥
unfolding words_faults
missing r i end t h = true≢false
    (sym
    (ap
    (λ b. is_some (first_of (cond {A = List ParseFault} b (record { kind = faults.MissingWord; place = end } ∷ []) [])))
    t) ∙ ap is_some h)

all_fit : (a : Kind) (i end : ℕ) (ws : List Word) → first_of (words_faults (Several a) i end ws) ≡ None
    → AllFit a (texts_of ws)
all_fit a i end [] h = tt
all_fit a i end (w ∷ ws) h = let m = more (Several a) i end w ws h in (fitting a w m.0, all_fit a (i + 1) end ws m.1)

pub fits : (r : Words) (end : ℕ) (ws : List Word) → first_of (words_faults r 0 end ws) ≡ None → Fits r (texts_of ws)
fits Nothing end [] h = tt
fits Nothing end (w ∷ ws) h = extra w (more Nothing 0 end w ws h).0
fits (One a) end [] h = missing (One a) 0 end refl h
fits (One a) end (w ∷ []) h = fitting a w (more (One a) 0 end w [] h).0
fits (One a) end (v ∷ w ∷ ws) h = extra w (more (One a) 1 end w ws (more (One a) 0 end v (w ∷ ws) h).1).0
fits (Perhaps a) end [] h = tt
fits (Perhaps a) end (w ∷ []) h = fitting a w (more (Perhaps a) 0 end w [] h).0
fits (Perhaps a) end (v ∷ w ∷ ws) h = extra w (more (Perhaps a) 1 end w ws (more (Perhaps a) 0 end v (w ∷ ws) h).1).0
fits (OneOrTwo a b) end [] h = missing (OneOrTwo a b) 0 end refl h
fits (OneOrTwo a b) end (v ∷ []) h = fitting a v (more (OneOrTwo a b) 0 end v [] h).0
fits (OneOrTwo a b) end (v ∷ w ∷ []) h =
    let m = more (OneOrTwo a b) 0 end v (w ∷ []) h in
    (fitting a v m.0, fitting b w (more (OneOrTwo a b) 1 end w [] m.1).0)
fits (OneOrTwo a b) end (u ∷ v ∷ w ∷ ws) h =
    extra w
    (more (OneOrTwo a b) 2 end w ws
    (more (OneOrTwo a b) 1 end v (w ∷ ws) (more (OneOrTwo a b) 0 end u (v ∷ w ∷ ws) h).1).1).0
fits (Three a b c) end [] h = missing (Three a b c) 0 end refl h
fits (Three a b c) end (u ∷ []) h = missing (Three a b c) 1 end refl (more (Three a b c) 0 end u [] h).1
fits (Three a b c) end (u ∷ v ∷ []) h = missing (Three a b c) 2 end refl
    (more (Three a b c) 1 end v [] (more (Three a b c) 0 end u (v ∷ []) h).1).1
fits (Three a b c) end (u ∷ v ∷ w ∷ []) h =
    let l = more (Three a b c) 0 end u (v ∷ w ∷ []) h in
    let m = more (Three a b c) 1 end v (w ∷ []) l.1 in
    (fitting a u l.0, fitting b v m.0, fitting c w (more (Three a b c) 2 end w [] m.1).0)
fits (Three a b c) end (u ∷ v ∷ w ∷ x ∷ ws) h =
    extra x
    (more (Three a b c) 3 end x ws
    (more (Three a b c) 2 end w (x ∷ ws)
    (more (Three a b c) 1 end v (w ∷ x ∷ ws) (more (Three a b c) 0 end u (v ∷ w ∷ x ∷ ws) h).1).1).1).0
fits (Several a) end [] h = missing (Several a) 0 end refl h
fits (Several a) end (w ∷ ws) h = all_fit a 0 end (w ∷ ws) h

pub passes : (b : Bool) (k : FaultKind) → unless b k ≡ None → b ≡ true
passes true k h = refl
passes false k h = absurd (true≢false (ap is_some h))

mapped : {A : Type 0} (f : A → Command) (o : Option A) (k : FaultKind) → unless (is_some o) k ≡ None
    → is_some (option_map f o) ≡ true
mapped f None k h = absurd (true≢false (ap is_some h))
mapped f (Some x) k h = refl

numbered : (f : ℕ → Command) (limit : ℕ) (text : List ℕ) → unless (is_number limit text) faults.BadNumber ≡ None
    → is_some (option_map f (number_in limit text)) ≡ true
numbered f limit text h = ap (λ b. is_some (option_map f (cond b (Some (number_after 0 text)) None)))
    (passes (is_number limit text) faults.BadNumber h)

-- whether the row can be without words
abbrev takes_none : Words → Bool
takes_none Nothing = true
takes_none (Perhaps a) = true
takes_none _ = false

none_fit : (r : Words) → Fits r [] → takes_none r ≡ true
none_fit Nothing h = refl
none_fit (Perhaps a) h = refl
none_fit _ h = absurd h

-- a command whose row can be without words has a meaning without words
bare_row : (n : CommandName) → (not (takes_none (takes n)) || is_some (bare n)) ≡ true
bare_row name.Detach = refl
bare_row n = refl

bare_is : (n : CommandName) → Fits (takes n) [] → is_some (bare n) ≡ true
bare_is n h = on (takes_none (takes n)) (is_some (bare n)) (none_fit (takes n) h) (bare_row n) where
  on : (a b : Bool) → a ≡ true → (not a || b) ≡ true → b ≡ true
  on true b is either = either
  on false b is either = absurd (true≢false (sym is))

one_is : (n : CommandName) (t : List ℕ) → Fits (takes n) (t ∷ []) → is_some (with_word n t) ≡ true
one_is name.Acladd t h = refl
one_is name.Acldel t h = refl
one_is name.Aclgrp t h = refl
one_is name.Aclumask t h = refl
one_is name.Writelock t h = mapped _ _ faults.BadWord h
one_is name.Defwritelock t h = mapped _ _ faults.BadWord h
one_is name.Multiuser t h = mapped _ _ faults.BadWord h
one_is name.Wall t h = refl
one_is name.Select t h = refl
one_is name.Title t h = refl
one_is name.Number t h = numbered _ 39 t h
one_is name.Split t h = ap (λ b. is_some (cond {A = Option Command} b (Some (command.Split true)) None))
    (passes (is_vertical t) faults.BadWord h)
one_is name.Scrollview t h = numbered _ 2000 t h
one_is name.Encoding t h = mapped _ _ faults.BadWord h
one_is name.Stuff t h = refl
one_is _ t h = absurd h

several_is : (n : CommandName) (t u : List ℕ) (ts : List (List ℕ)) → Fits (takes n) (t ∷ u ∷ ts)
    → is_some (with_words n (t ∷ u ∷ ts)) ≡ true
several_is name.Aclumask t u ts h = refl
several_is name.Aclgrp t u [] h = refl
several_is name.Aclgrp t u (v ∷ ts) h = absurd h
several_is name.Aclchg t u [] h = absurd h
several_is name.Aclchg t u (v ∷ []) h = refl
several_is name.Aclchg t u (v ∷ w ∷ ts) h = absurd h
several_is _ t u ts h = absurd h

-- texts that fit mean a command
pub means_one : (n : CommandName) (ts : List (List ℕ)) → Fits (takes n) ts → is_some (command_of n ts) ≡ true
means_one n [] h = bare_is n h
means_one n (t ∷ []) h = one_is n t h
means_one n (t ∷ u ∷ ts) h = several_is n t u ts h

-- words that fit have no fault
abbrev pub AllWhole : List Word → Type 0
AllWhole [] = Unit {0}
AllWhole (w ∷ ws) = (w.is_closed ≡ true) × AllWhole ws

fine : (k : Kind) (w : Word) → w.is_closed ≡ true → kind_fault k w.text ≡ None → word_fault (Some k) w ≡ None
fine k w e f = ap (λ b. at_place w.place (cond b (kind_fault k w.text) (Some faults.BadQuote))) e
    ∙ ap (at_place w.place) f

word-fine : (r : Words) (i end : ℕ) (w : Word) (ws : List Word) → word_fault (kind_at r i) w ≡ None
    → words_faults r (i + 1) end ws ≡ [] → words_faults r i end (w ∷ ws) ≡ []
unfolding words_faults
word-fine r i end w ws e f = ap (λ o. option_to_list o ++ words_faults r (i + 1) end ws) e ∙ f

end-fine : (r : Words) (i end : ℕ) → nat_lt i (least r) ≡ false → words_faults r i end [] ≡ []
unfolding words_faults
end-fine r i end e = ap (λ b. cond {A = List ParseFault} b (record { kind = faults.MissingWord; place = end } ∷ []) [])
    e

rest-fine : (a : Kind) (i end : ℕ) (ws : List Word) → 0 < i → AllWhole ws → AllFit a (texts_of ws)
    → words_faults (Several a) i end ws ≡ []
rest-fine a i end [] h g f = end-fine (Several a) i end (grind (arith, nat_tests))
rest-fine a i end (w ∷ ws) h g f = word-fine (Several a) i end w ws (fine a w g.0 f.0)
    (rest-fine a (i + 1) end ws (omega (arith, h)) g.1 f.1)

pub no_faults : (r : Words) (end : ℕ) (ws : List Word) → AllWhole ws → Fits r (texts_of ws)
    → words_faults r 0 end ws ≡ []
no_faults Nothing end [] g f = end-fine Nothing 0 end refl
no_faults Nothing end (w ∷ ws) g f = absurd f
no_faults (One a) end [] g f = absurd f
no_faults (One a) end (w ∷ []) g f = word-fine (One a) 0 end w [] (fine a w g.0 f) (end-fine (One a) 1 end refl)
no_faults (One a) end (v ∷ w ∷ ws) g f = absurd f
no_faults (Perhaps a) end [] g f = end-fine (Perhaps a) 0 end refl
no_faults (Perhaps a) end (w ∷ []) g f = word-fine (Perhaps a) 0 end w [] (fine a w g.0 f)
    (end-fine (Perhaps a) 1 end refl)
no_faults (Perhaps a) end (v ∷ w ∷ ws) g f = absurd f
no_faults (OneOrTwo a b) end [] g f = absurd f
no_faults (OneOrTwo a b) end (w ∷ []) g f = word-fine (OneOrTwo a b) 0 end w [] (fine a w g.0 f)
    (end-fine (OneOrTwo a b) 1 end refl)
no_faults (OneOrTwo a b) end (v ∷ w ∷ []) g f =
    word-fine (OneOrTwo a b) 0 end v (w ∷ []) (fine a v g.0 f.0)
    (word-fine (OneOrTwo a b) 1 end w [] (fine b w g.1.0 f.1) (end-fine (OneOrTwo a b) 2 end refl))
no_faults (OneOrTwo a b) end (u ∷ v ∷ w ∷ ws) g f = absurd f
no_faults (Three a b c) end [] g f = absurd f
no_faults (Three a b c) end (u ∷ []) g f = absurd f
no_faults (Three a b c) end (u ∷ v ∷ []) g f = absurd f
no_faults (Three a b c) end (u ∷ v ∷ w ∷ []) g f =
    word-fine (Three a b c) 0 end u (v ∷ w ∷ []) (fine a u g.0 f.0)
    (word-fine (Three a b c) 1 end v (w ∷ []) (fine b v g.1.0 f.1)
    (word-fine (Three a b c) 2 end w [] (fine c w g.1.1.0 f.2) (end-fine (Three a b c) 3 end refl)))
no_faults (Three a b c) end (u ∷ v ∷ w ∷ x ∷ ws) g f = absurd f
no_faults (Several a) end [] g f = absurd f
no_faults (Several a) end (w ∷ ws) g f = word-fine (Several a) 0 end w ws (fine a w g.0 f.0)
    (rest-fine a 1 end ws (omega arith) g.1 f.1)
