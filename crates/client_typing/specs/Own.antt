-- The keys that a client takes and gives of its own.
use Rattle.std.specs.Prelude.{ℕ, ◌+◌, ◌-◌, ◌<◌, min, Bool, true, false, if◌then◌else◌}
use Rattle.std.specs.Prelude.{List, [], ◌∷◌, ◌++◌, codes, decimal}
use Rattle.keys.specs.Grammar.{control_a, escape}
use Rattle.client_typing.specs.Fitting.{given_keys, fit_keys}

abbrev pub question : ℕ
question = 0x3F

-- The keys to scroll by a page, and whether that is up: with Shift as xterm and rxvt send them, and with Alt, since some
-- terminals keep those with Shift for themselves.
pub data IsPageKey : List ℕ → Bool → Type 0 where
  xterm_up : IsPageKey (escape ∷ codes "[5;2~") true
  xterm_down : IsPageKey (escape ∷ codes "[6;2~") false
  alt_up : IsPageKey (escape ∷ codes "[5;3~") true
  alt_down : IsPageKey (escape ∷ codes "[6;3~") false
  rxvt_up : IsPageKey (escape ∷ codes "[5$") true
  rxvt_down : IsPageKey (escape ∷ codes "[6$") false

-- the command that moves the view back by this many lines
abbrev pub view_command : ℕ → List ℕ
view_command back = codes "scrollview " ++ decimal back

abbrev pub view_keys : ℕ → List ℕ
view_keys back = given_keys (view_command back)

-- how many lines a view is moved back after a page of some lines: at most 2,000
abbrev pub turned : Bool → ℕ → ℕ → ℕ
turned is_up lines back = if is_up then min (back + lines) 2000 else back - lines

-- What a client does of its own: while its view is moved back by so many lines, it takes these keys of what is typed,
-- gives those, and then the view is moved back by so many.
pub data IsOwn : ℕ → List ℕ → List ℕ → ℕ → Type 0 where
  fits : {back : ℕ} → IsOwn back [] fit_keys back
  helps : IsOwn 0 (control_a ∷ question ∷ []) [] 0
  turns : {back : ℕ} {is_up : Bool} {taken : List ℕ} (lines : ℕ) → IsPageKey taken is_up
      → IsOwn back taken (view_keys (turned is_up lines back)) (turned is_up lines back)
  returns : {back : ℕ} → 0 < back → IsOwn back [] (view_keys 0) 0
