-- Lines and words cut at a byte.
use Rattle.std.proofs.Common.{◌≡◌, ◌≢◌, ℕ, suc, ◌<◌, true, false, eqb, List, [], ◌∷◌, ◌++◌, length, get_or, Some, None, refl, arith, inl, inr}
use Rattle.std.specs.Str.{IsUtf8, is_utf8}
use Rattle.std.proofs.lemmas.Bool.{ne_eqb, cases_Bool}
use Rattle.std.proofs.lemmas.Str.{IsUtf8-from_is_utf8}
use Rattle.cmd_schedule.specs.Reading.{pieces_of, cut_of}

-- no byte of these is c
abbrev pub Lacks : ℕ → List ℕ → Type 0
Lacks c bytes = (i : ℕ) → i < length bytes → get_or bytes i 0 ≢ c

pub Lacks-tail : (c b : ℕ) (bytes : List ℕ) → Lacks c (b ∷ bytes) → Lacks c bytes
Lacks-tail c b bytes h i lt = h (suc i) (omega arith)

differs : (c b : ℕ) (bytes : List ℕ) → Lacks c (b ∷ bytes) → eqb b c ≡ false
differs c b bytes h = ne_eqb b c (h 0 (omega arith))

pub cut_after : (front rest : List ℕ) → Lacks 32 front → cut_of (front ++ 32 ∷ rest) ≡ record { front = front; rest = Some rest }
cut_after [] rest h = refl
cut_after (b ∷ front) rest h = rw (differs 32 b front h, cut_after front rest (Lacks-tail 32 b front h)) refl

pub cut_whole : (bytes : List ℕ) → Lacks 32 bytes → cut_of bytes ≡ record { front = bytes; rest = None }
cut_whole [] h = refl
cut_whole (b ∷ bytes) h = rw (differs 32 b bytes h, cut_whole bytes (Lacks-tail 32 b bytes h)) refl

pub piece_after : (front rest : List ℕ) → Lacks 10 front → pieces_of (front ++ 10 ∷ rest) ≡ record { bytes = front; ended = true } ∷ pieces_of rest
piece_after [] rest h = refl
piece_after (b ∷ front) rest h = rw (differs 10 b front h, piece_after front rest (Lacks-tail 10 b front h)) refl

pub piece_whole : (b : ℕ) (bytes : List ℕ) → Lacks 10 (b ∷ bytes) → pieces_of (b ∷ bytes) ≡ record { bytes = b ∷ bytes; ended = false } ∷ []
piece_whole b [] h = rw (differs 10 b [] h) refl
piece_whole b (c ∷ bytes) h = rw (differs 10 b (c ∷ bytes) h, piece_whole c bytes (Lacks-tail 10 b (c ∷ bytes) h)) refl

pub piece_all : (bytes : List ℕ) → 0 < length bytes → Lacks 10 bytes → pieces_of bytes ≡ record { bytes = bytes; ended = false } ∷ []
piece_all [] lt h = absurd (omega arith)
piece_all (b ∷ bytes) lt h = piece_whole b bytes h

pub not_spelled : (bytes : List ℕ) → ¬ (IsUtf8 bytes) → is_utf8 bytes ≡ false
not_spelled bytes not_so =
    elim (cases_Bool (is_utf8 bytes)) [
      | inl e ↦ absurd (not_so (IsUtf8-from_is_utf8 bytes e))
      | inr e ↦ e
    ]
