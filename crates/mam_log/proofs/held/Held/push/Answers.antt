use Rattle.std.proofs.Common.{◌≡◌, ◌+◌, false, cond, not, List, [], ◌∷◌, ◌++◌, length, drop, string_bytes, arith, ap, sym, subst, ◌∙◌}
use Rattle.std.proofs.lemmas.List.{drop-append-le, length-append}
use Rattle.std.proofs.lemmas.Map.Text.{btree_set_updates_text}
use Rattle.std.specs.BTreeSet.{btree_set_len, contains_text}
use Rattle.mam_log.proofs.Unheld.{IsIndexOf-added}
use Rattle.mam_log.specs.HeldIds.{IsIndexOf}
use Rattle.mam_log.specs.LogPages.{ids_of}
use Rattle.mam_log.specs.Views.{is_among}
use Rattle.mam_log.specs.declared.log_entry.LogEntry.{LogEntry}
use Rattle.mam_log.proofs.held.Held.push.Goals as goal

-- the set has the message's id, too
pub invariant_of-self-2 : goal.invariant_of-self-2
invariant_of-self-2 c =
    let items = c.self.inside.items.items in
    let ids = c.self.inside.ids in
    let held = drop c.self.inside.start items in
    let live = c.args.live in
    let all : c.push.new.self.items ≡ items ++ live ∷ [] = c.in-Ok.ensures.items ∙ ap (λ es. es ++ live ∷ []) c.in_ok-reserve.ensures.items in
    let cut : drop c.self.inside.start c.push.new.self.items ≡ held ++ live ∷ [] =
    ap (λ (es : List LogEntry). drop c.self.inside.start es) all ∙ drop-append-le c.self.inside.start items (live ∷ []) c.self.invariant.0 in
    let same : string_bytes c.in_ok-id.id ≡ live.id = c.in_ok-id.ensures.ok ∙ c.as_str.ensures in
    let none : is_among live.id (ids_of held) ≡ false = subst (λ (es : List LogEntry). is_among live.id (ids_of es) ≡ false) (sym c.self.view_is) c.requires in
    let fresh : contains_text ids (string_bytes c.in_ok-id.id) ≡ false = ap (λ id. contains_text ids id) same ∙ (c.self.invariant.1.finds live.id ∙ none) in
    let count : btree_set_len c.insert.new.self ≡ btree_set_len ids + 1 =
    c.in_ok-insert.ensures.len ∙ ap (λ b. btree_set_len ids + cond b 1 0) (c.in_ok-insert.ensures.added ∙ ap not fresh) in
    let updates = btree_set_updates_text (string_bytes c.in_ok-id.id) ids c.insert.new.self _ c.in_ok-insert.ensures.updates in (
      omega (arith, c.self.invariant.0, ap (λ (es : List LogEntry). length es) all, length-append items (live ∷ [])),
      subst (λ (es : List LogEntry). IsIndexOf c.insert.new.self es) (sym cut)
          (IsIndexOf-added (string_bytes c.in_ok-id.id) ids c.insert.new.self held live same updates count none c.self.invariant.1),
    )
