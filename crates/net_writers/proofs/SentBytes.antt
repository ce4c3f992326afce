-- What one half has sent.
use Rattle.std.proofs.Common.{◌≡◌, ℕ, Bool, true, false, true≢false, List, [], ◌++◌, take, drop, take-append-drop, Option, Some, None, IfSome, append-nil, append_assoc, ap, refl, subst, sym, ◌∙◌, arith}
use Rattle.std.specs.Io.KnownBytes.{Appends}
use Rattle.std.specs.Option.{ForSome}
use Rattle.base_io.specs.Counts.{Rose}
use Rattle.base_io.specs.Prefixes.{AppendsPrefix}
use Rattle.net_traits.specs.Halves.{OutgoingView}
use Rattle.net_writers.specs.Sent.{IsPrefix, HasSent, IsUnwritten}

if_some : {A : Type 0} (P : A → Type 0) (o : Option A) → ForSome o P → IfSome o P
if_some P None h = tt
if_some P (Some a) h = h a refl

prefixes : (written : Option (List ℕ)) (all : List ℕ) → IfSome written (λ bytes. bytes ≡ all) → IfSome written (λ bytes. IsPrefix bytes all)
prefixes None all h = tt
prefixes (Some bytes) all h = ([], sym h ∙ sym (append-nil bytes))

pub unused : (half : OutgoingView) → IsUnwritten half → HasSent [] false half
unused half is = let none = if_some (λ bytes. bytes ≡ []) half.written is.written in record {
  prefix = prefixes half.written [] none;
  all = λ _. none;
  whole = λ _. is.faults;
  broke = λ e. absurd (true≢false (sym e));
}

-- bytes that are not written
longer : (written : Option (List ℕ)) (before bytes : List ℕ) → IfSome written (λ w. IsPrefix w before) → IfSome written (λ w. IsPrefix w (before ++ bytes))
longer None before bytes h = tt
longer (Some w) before bytes h = (h.0 ++ bytes, ap (λ l. l ++ bytes) h.1 ∙ append_assoc w h.0 bytes)

-- nothing more is written once a write failed
pub skipped : (broken : Bool) (before bytes : List ℕ) (half : OutgoingView) → broken ≡ true → HasSent before broken half → HasSent (before ++ bytes) broken half
skipped true before bytes half is h = record {
  prefix = longer half.written before bytes h.prefix;
  all = λ e. absurd (true≢false e);
  whole = λ e. absurd (true≢false e);
  broke = h.broke;
}
skipped false before bytes half is h = absurd (true≢false (sym is))

written_on : (old new : Option (List ℕ)) (before bytes : List ℕ) → Appends old new bytes → (old ≡ None → new ≡ None) → IfSome old (λ w. w ≡ before) → IfSome new (λ w. w ≡ before ++ bytes)
written_on None new before bytes more silent was = subst (λ (o : Option (List ℕ)). IfSome o (λ w. w ≡ before ++ bytes)) (sym (silent refl)) tt
written_on (Some xs) None before bytes more silent was = tt
written_on (Some xs) (Some ys) before bytes more silent was = more ∙ ap (λ l. l ++ bytes) was

-- all bytes were written
pub wrote : (broken : Bool) (before bytes : List ℕ) (old new : OutgoingView) → broken ≡ false → Appends old.written new.written bytes → (old.written ≡ None → new.written ≡ None) → new.faults ≡ old.faults
    → HasSent before broken old → HasSent (before ++ bytes) broken new
wrote true before bytes old new is more silent same h = absurd (true≢false is)
wrote false before bytes old new is more silent same h = let all = written_on old.written new.written before bytes more silent (h.all refl) in record {
  prefix = prefixes new.written (before ++ bytes) all;
  all = λ _. all;
  whole = λ _. same ∙ h.whole refl;
  broke = λ e. absurd (true≢false (sym e));
}

cut : (new : Option (List ℕ)) (before bytes : List ℕ) (n : ℕ) → IfSome new (λ w. w ≡ before ++ take n bytes) → IfSome new (λ w. IsPrefix w (before ++ bytes))
cut None before bytes n h = tt
cut (Some w) before bytes n h = (drop n bytes, ap (λ l. before ++ l) (sym (take-append-drop n bytes)) ∙ sym (append_assoc before (take n bytes) (drop n bytes)) ∙ ap (λ l. l ++ drop n bytes) (sym h))

-- a write failed
pub stopped : (broken : Bool) (before bytes : List ℕ) (old new : OutgoingView) → broken ≡ false → AppendsPrefix old.written new.written bytes → (old.written ≡ None → new.written ≡ None) → Rose old.faults new.faults
    → HasSent before broken old → HasSent (before ++ bytes) true new
stopped true before bytes old new is prefix silent rose h = absurd (true≢false is)
stopped false before bytes old new is prefix silent rose h = record {
  prefix = cut new.written before bytes prefix.0 (written_on old.written new.written before (take prefix.0 bytes) prefix.2 silent (h.all refl));
  all = λ e. absurd (true≢false e);
  whole = λ e. absurd (true≢false e);
  broke = λ _. omega (arith, rose);
}
