-- A display has nothing of a token.
use Rattle.std.proofs.Common.{◌≡◌, ℕ, ◌+◌, ◌*◌, ◌<◌, min, max, List, take, drop, get_or, sym, ap, ◌∙◌, subst, lit<}
use Rattle.std.proofs.lemmas.List.{get_or-take}
use Rattle.attach_proto.specs.declared.why.Told.{Told}
use Rattle.attach_proto.specs.Streams.{Reading}
use Rattle.web_page.specs.Showing.{Sheet}
use Rattle.web_page.proofs.Blank.{same-blank}
use Rattle.web_client.specs.declared.client.WebClient.{WebClient}
use Rattle.web_page.specs.Hearing.{WebDisplay, IsBlank}
use Rattle.web_client.specs.Asking.{lines_in, columns_in, IsLogin}

-- the first bytes decide a byte among them
same-at : (p q : List ℕ) (i : ℕ) → take 4 p ≡ take 4 q → i < 4 → get_or p i 0 ≡ get_or q i 0
same-at p q i e l =
    sym (get_or-take 4 p i 0 l) ∙ ap (λ (s : List ℕ). get_or s i 0) e ∙ get_or-take 4 q i 0 l

-- ..and a number of two bytes
same-number : (p q : List ℕ) (i j : ℕ) → take 4 p ≡ take 4 q → i < 4 → j < 4
    → 256 * get_or p i 0 + get_or p j 0 ≡ 256 * get_or q i 0 + get_or q j 0
same-number p q i j e l m =
    ap (λ (n : ℕ). 256 * n + get_or p j 0) (same-at p q i e l)
    ∙ ap (λ (n : ℕ). 256 * get_or q i 0 + n) (same-at p q j e m)

same-lines : (p q : List ℕ) → take 4 p ≡ take 4 q → lines_in p ≡ lines_in q
same-lines p q e = ap (λ (n : ℕ). max 4 (min n 200)) (same-number p q 0 1 e (lit< tt) (lit< tt))

same-columns : (p q : List ℕ) → take 4 p ≡ take 4 q → columns_in p ≡ columns_in q
same-columns p q e = ap (λ (n : ℕ). max 20 (min n 300)) (same-number p q 2 3 e (lit< tt) (lit< tt))

-- there is one blank display of each size and name
one-blank : (rows columns : ℕ) (name : List ℕ) (a b : WebDisplay) → IsBlank rows columns name a
    → IsBlank rows columns name b → a ≡ b
one-blank rows columns name a b p q =
    ap (λ (n : List ℕ). record a { name = n }) (p.called ∙ sym q.called)
    ∙ ap (λ (r : Reading). record a { name = b.name; reading = r }) (p.unread ∙ sym q.unread)
    ∙ ap (λ (s : Sheet). record a { name = b.name; reading = b.reading; sheet = s })
    (same-blank rows columns a.sheet b.sheet p.sheet q.sheet)
    ∙ ap (λ (t : Told). record b { told = t }) (p.told ∙ sym q.told)

pub same-display : (p q : List ℕ) (a b : WebClient) → take 4 p ≡ take 4 q → drop 68 p ≡ drop 68 q → IsLogin p a
    → IsLogin q b → a.display ≡ b.display
same-display p q a b e f s t =
    one-blank (lines_in q) (columns_in q) (drop 68 q) a.display b.display
    (subst (λ (n : List ℕ). IsBlank (lines_in q) (columns_in q) n a.display) f
    (subst (λ (n : ℕ). IsBlank (lines_in q) n (drop 68 p) a.display) (same-columns p q e)
    (subst (λ (n : ℕ). IsBlank n (columns_in p) (drop 68 p) a.display) (same-lines p q e) s.shown)))
    t.shown
