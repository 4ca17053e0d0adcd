-- What a reader of sizes stands for, byte by byte.
use Rattle.std.proofs.Common.{◌≡◌, ℕ, ◌<◌, ◌≤◌, Bool, true, false, ◌||◌, List, [], ◌∷◌, ◌++◌, length, take, None, refl}
use Rattle.std.proofs.Common.{sym, ap, ap₂, subst, ◌∙◌, if◌then◌else◌}
use Rattle.std.specs.Prelude.{is_none}
use Rattle.std.specs.Option.{option_or}
use Rattle.client_words.specs.declared.size_lines.SizeLines.{SizeLines}
use Rattle.client_words.specs.Lines.{is_feed, size_of, ended, unended, last_size, has_other}
use Rattle.client_words.specs.Stands.{StandsFor}
use Rattle.client_words.proofs.Parts.{ended-nil, unended-nil, ended-feed, unended-feed, ended-other, unended-other}
use Rattle.client_words.proofs.Sizes.{kept, kept-room, kept-full, last-more, other-more}

pub stands-nil : (reader : SizeLines) → reader.line.items ≡ [] → reader.has_dropped ≡ false → StandsFor reader []
stands-nil reader items dropped = record {
  line = items ∙ ap (take 64) (sym unended-nil);
  dropped = dropped ∙ ap has_other (sym ended-nil);
}

-- a reader whose parts are unchanged
pub stands-same : (old new : SizeLines) (bytes : List ℕ) → new.line.items ≡ old.line.items
    → new.has_dropped ≡ old.has_dropped → StandsFor old bytes → StandsFor new bytes
stands-same old new bytes items dropped s = record { line = items ∙ s.line; dropped = dropped ∙ s.dropped }

-- one byte more of a line
pub stands-room : (old new : SizeLines) (bytes : List ℕ) (byte : ℕ) → is_feed byte ≡ false → length old.line.items < 64
    → new.line.items ≡ old.line.items ++ byte ∷ [] → new.has_dropped ≡ old.has_dropped → StandsFor old bytes
    → StandsFor new (bytes ++ byte ∷ [])
stands-room old new bytes byte other room items dropped s =
    let short : length (take 64 (unended bytes)) < 64 = subst (λ (l : List ℕ). length l < 64) s.line room in
    record {
      line = items ∙ ap (λ (l : List ℕ). l ++ byte ∷ []) s.line
          ∙ sym (ap (take 64) (unended-other bytes byte other) ∙ kept-room 64 (unended bytes) byte short);
      dropped = dropped ∙ s.dropped ∙ ap has_other (sym (ended-other bytes byte other));
    }

pub stands-full : (old new : SizeLines) (bytes : List ℕ) (byte : ℕ) → is_feed byte ≡ false → 64 ≤ length old.line.items
    → new.line.items ≡ old.line.items → new.has_dropped ≡ old.has_dropped → StandsFor old bytes
    → StandsFor new (bytes ++ byte ∷ [])
stands-full old new bytes byte other full items dropped s =
    let long : 64 ≤ length (take 64 (unended bytes)) = subst (λ (l : List ℕ). 64 ≤ length l) s.line full in
    record {
      line = items ∙ s.line
          ∙ sym (ap (take 64) (unended-other bytes byte other) ∙ kept-full 64 (unended bytes) byte long);
      dropped = dropped ∙ s.dropped ∙ ap has_other (sym (ended-other bytes byte other));
    }

-- the beginning that it keeps of a line gives the size that the line gives
pub says : (reader : SizeLines) (bytes : List ℕ) → StandsFor reader bytes
    → size_of reader.line.items ≡ size_of (unended bytes)
says reader bytes s = ap size_of s.line ∙ kept (unended bytes)

-- a line ends
pub stands-feed : (old new : SizeLines) (bytes : List ℕ) (byte : ℕ) → is_feed byte ≡ true → new.line.items ≡ []
    → new.has_dropped ≡ (old.has_dropped || is_none (size_of old.line.items)) → StandsFor old bytes
    → StandsFor new (bytes ++ byte ∷ [])
stands-feed old new bytes byte feed items dropped s = record {
  line = items ∙ ap (take 64) (sym (unended-feed bytes byte feed));
  dropped = dropped ∙ ap₂ (λ a b. a || is_none b) s.dropped (says old bytes s)
      ∙ sym (ap has_other (ended-feed bytes byte feed) ∙ other-more (ended bytes) (unended bytes));
}

-- ---- the last size

-- the last size after one more byte: that of the line, if the byte ends it, or else the last one before
pub last-byte : (behind : List ℕ) (byte : ℕ) (line : List ℕ) → size_of line ≡ size_of (unended behind)
    → option_or (if is_feed byte then size_of line else None) (last_size (ended behind)) ≡ last_size
    (ended (behind ++ byte ∷ []))
last-byte behind byte line e = go (is_feed byte) refl
  where
    go : (b : Bool) → is_feed byte ≡ b
        → option_or (if b then size_of line else None) (last_size (ended behind)) ≡ last_size
        (ended (behind ++ byte ∷ []))
    go true feed = ap (λ o. option_or o (last_size (ended behind))) e
        ∙ sym (ap last_size (ended-feed behind byte feed) ∙ last-more (ended behind) (unended behind))
    go false other = ap last_size (sym (ended-other behind byte other))
