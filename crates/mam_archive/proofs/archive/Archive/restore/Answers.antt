use Rattle.std.proofs.Common.{◌≡◌, length, ap, sym, ◌∙◌, subst, arith}
use Rattle.mam_archive.proofs.Newest.{kept_again}
use Rattle.mam_archive.specs.Entries.{AreKept, newest}
use Rattle.mam_archive.proofs.archive.Archive.restore.Goals as goal

-- the newest are kept, and they are linked
pub invariant_of-result : goal.invariant_of-result
invariant_of-result c =
    let kept = kept_again c.args.keep c.args.last c.args.entries.items c.requires.keep c.requires.numbers c.requires.within c.requires.most c.requires.none in
    let same : c.in_ok-entries.field-0.entries.items ≡ newest c.args.keep c.args.entries.items =
    c.in_ok-entries.ensures.entries ∙ c.into_vec.ensures.items ∙ c.drop_past.ensures ∙ ap (newest c.args.keep) (c.from_vec-kept.ensures.items ∙ c.into_items.ensures) in
    let count : c.len.result ≡ length c.into_vec.result.items = omega (arith, c.len.ensures, c.drop_past.new.entries.ok.0, ap length c.into_vec.ensures.items) in
    let linked = rw (c.as_str.ensures, count) at c.in_ok-entries.ensures.linked in
    (subst (AreKept c.args.keep c.args.last) (sym same) kept, rw (c.in_ok-entries.ensures.entries) linked)
