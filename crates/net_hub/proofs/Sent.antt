-- What one half has sent.
use Rattle.std.proofs.Common.{◌≡◌, ℕ, ◌≤◌, Bool, true, false, true≢false, List, [], ◌++◌, take, drop, take-append-drop, Option, Some, None, IfSome, append-nil, append_assoc, ap, refl, subst, sym, ◌∙◌, arith}
use Rattle.std.specs.Io.KnownBytes.{Appends}
use Rattle.std.specs.Option.{ForSome}
use Rattle.base_io.specs.Counts.{Rose}
use Rattle.base_io.specs.Prefixes.{AppendsPrefix}
use Rattle.net_traits.specs.Halves.{IncomingView, IsUnusedPair, OutgoingView}
use Rattle.net_hub.specs.Puts.{IsFront}
use Rattle.net_hub.specs.Sendings.{HasSent}

none_written : (written : Option (List ℕ)) → ForSome written (λ bytes. bytes ≡ []) → IfSome written (λ bytes. bytes ≡ [])
none_written None h = tt
none_written (Some bytes) h = h bytes refl

fronts : (written : Option (List ℕ)) (all : List ℕ) → IfSome written (λ bytes. bytes ≡ all) → IfSome written (λ bytes. IsFront bytes all)
fronts None all h = tt
fronts (Some bytes) all h = ([], sym h ∙ sym (append-nil bytes))

pub unused : (incoming : IncomingView) (half : OutgoingView) → IsUnusedPair incoming half → HasSent [] false half
unused incoming half is = let none = none_written half.written is.written in record {
  front = fronts half.written [] none;
  all = λ _. none;
  whole = λ _. is.write_faults;
  broke = λ e. absurd (true≢false (sym e));
}

-- bytes that are not written
longer : (written : Option (List ℕ)) (before bytes : List ℕ) → IfSome written (λ w. IsFront w before) → IfSome written (λ w. IsFront w (before ++ bytes))
longer None before bytes h = tt
longer (Some w) before bytes h = (h.0 ++ bytes, ap (λ l. l ++ bytes) h.1 ∙ append_assoc w h.0 bytes)

-- nothing more is written once a write failed
pub skipped : (broken : Bool) (before bytes : List ℕ) (half : OutgoingView) → broken ≡ true → HasSent before broken half → HasSent (before ++ bytes) broken half
skipped true before bytes half is h = record {
  front = longer half.written before bytes h.front;
  all = λ e. absurd (true≢false e);
  whole = λ e. absurd (true≢false e);
  broke = h.broke;
}
skipped false before bytes half is h = absurd (true≢false (sym is))

joined : (old new : Option (List ℕ)) (before bytes : List ℕ) → IfSome old (λ w. w ≡ before) → Appends old new bytes → (old ≡ None → new ≡ None) → IfSome new (λ w. w ≡ before ++ bytes)
joined None new before bytes was more silent = subst (λ (o : Option (List ℕ)). IfSome o (λ w. w ≡ before ++ bytes)) (sym (silent refl)) tt
joined (Some xs) None before bytes was more silent = tt
joined (Some xs) (Some ys) before bytes was more silent = more ∙ ap (λ l. l ++ bytes) was

-- all bytes were written
pub wrote : (broken : Bool) (before bytes : List ℕ) (old new : OutgoingView) → broken ≡ false → Appends old.written new.written bytes → (old.written ≡ None → new.written ≡ None) → new.faults ≡ old.faults
    → HasSent before broken old → HasSent (before ++ bytes) broken new
wrote true before bytes old new is more silent same h = absurd (true≢false is)
wrote false before bytes old new is more silent same h = let all = joined old.written new.written before bytes (h.all refl) more silent in record {
  front = fronts new.written (before ++ bytes) all;
  all = λ _. all;
  whole = λ _. same ∙ h.whole refl;
  broke = λ e. absurd (true≢false (sym e));
}

cut : (new : Option (List ℕ)) (before bytes : List ℕ) (n : ℕ) → IfSome new (λ w. w ≡ before ++ take n bytes) → IfSome new (λ w. IsFront w (before ++ bytes))
cut None before bytes n h = tt
cut (Some w) before bytes n h = (drop n bytes, ap (λ l. before ++ l) (sym (take-append-drop n bytes)) ∙ sym (append_assoc before (take n bytes) (drop n bytes)) ∙ ap (λ l. l ++ drop n bytes) (sym h))

rose_some : (a b : ℕ) → Rose a b → 1 ≤ b
rose_some a b rose = omega (arith, rose)

-- a write failed
pub stopped : (broken : Bool) (before bytes : List ℕ) (old new : OutgoingView) → broken ≡ false → AppendsPrefix old.written new.written bytes → (old.written ≡ None → new.written ≡ None) → Rose old.faults new.faults
    → HasSent before broken old → HasSent (before ++ bytes) true new
stopped true before bytes old new is prefix silent rose h = absurd (true≢false is)
stopped false before bytes old new is prefix silent rose h = record {
  front = cut new.written before bytes prefix.0 (joined old.written new.written before (take prefix.0 bytes) (h.all refl) prefix.2 silent);
  all = λ e. absurd (true≢false e);
  whole = λ e. absurd (true≢false e);
  broke = λ _. rose_some old.faults new.faults rose;
}

pub moved : (bytes : List ℕ) (a b : Bool) (old new : OutgoingView) → b ≡ a → new ≡ old → HasSent bytes a old → HasSent bytes b new
moved bytes a b old new is same h = subst (λ (x : Bool). HasSent bytes x new) (sym is) (subst (HasSent bytes a) (sym same) h)
