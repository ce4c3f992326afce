-- What went out in parts.
use Rattle.std.proofs.Common.{◌≡◌, ℕ, ◌-◌, ◌≤◌, List, ◌++◌, length, take, drop, Option, sym, ap, ◌∙◌, subst, append_assoc, take-append-drop, length-append, arith}
use Rattle.std.proofs.lemmas.List.{take_rest}
use Rattle.std.proofs.Math.Seq.{take-append_seam}
use Rattle.std.proofs.KnownBytes.{Appends-kept}
use Rattle.std.specs.Io.KnownBytes.{Appends, Keeps}
use Rattle.base_io.specs.Prefixes.{AppendsPrefix}

-- a part went out, and then nothing more: what went out is a prefix
pub prefix_kept : (old mid new : Option (List ℕ)) (bs done rest : List ℕ) → bs ≡ done ++ rest → Appends old mid done → Keeps mid new → AppendsPrefix old new bs
prefix_kept old mid new bs done rest split out kept =
    let prefix : take (length done) bs ≡ done = ap (take (length done)) split ∙ take-append_seam done rest in
    let fits : length done ≤ length bs = omega (arith, ap length split, length-append done rest) in
    (length done, fits, subst (Appends old new) (sym prefix) (Appends-kept old mid new done out kept))

-- the rest splits in two at n
pub split_at : (bs done rest : List ℕ) (n : ℕ) → bs ≡ done ++ rest → bs ≡ done ++ take n rest ++ take (length rest - n) (drop n rest)
split_at bs done rest n split =
    split ∙ ap (λ l. done ++ l) (sym (take-append-drop n rest)) ∙ sym (append_assoc done (take n rest) (drop n rest))
    ∙ ap (λ l. done ++ take n rest ++ l) (sym (take_rest rest n))
