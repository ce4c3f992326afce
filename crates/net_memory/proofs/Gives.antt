-- Bytes of which some first ones were given, where more are.
use Rattle.std.proofs.Common.{◌≡◌, ℕ, ◌+◌, ◌-◌, List, ◌++◌, length, take, drop, ap, sym, ◌∙◌, take-append-drop}
use Rattle.std.proofs.Math.Seq.{take-add}
use Rattle.std.proofs.lemmas.List.{drop-drop, take_rest}
use Rattle.net_memory.specs.InMemory.{UnreadView}

module _ (bytes all buf : List ℕ) (at n : ℕ) (was : UnreadView) where
  abbrev Copied : Type 0
  Copied = take n buf ≡ take n (take (length all - at) (drop at all))

  copied : all ≡ bytes → Copied → take n buf ≡ take n (drop at bytes)
  copied is same = same ∙ ap (take n) (take_rest all at ∙ ap (drop at) is)

  -- those that were given are those before, and these
  pub given_more : all ≡ bytes → Copied → take at bytes ≡ was.given → take (at + n) bytes ≡ was.given ++ take n buf
  given_more is same before = take-add at n bytes ∙ ap (λ l. take at bytes ++ l) (sym (copied is same)) ∙ ap (λ l. l ++ take n buf) before

  -- and those that are left are the rest
  pub left_less : all ≡ bytes → Copied → drop at bytes ≡ was.left → was.left ≡ take n buf ++ drop (at + n) bytes
  left_less is same before =
      sym before ∙ sym (take-append-drop n (drop at bytes)) ∙ ap (λ l. l ++ drop n (drop at bytes)) (sym (copied is same))
      ∙ ap (λ l. take n buf ++ l) (drop-drop n at bytes)
