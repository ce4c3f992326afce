use Rattle.std.proofs.Common.{◌≡◌, ◌++◌, ap, sym, ◌∙◌, subst}
use Rattle.mam_keep.proofs.Tables.{after_append, all_append, rise_append}
use Rattle.mam_keep.specs.Changes.{ChangeView, MayAppend, after}
use Rattle.mam_keep.specs.Kept.{IsSession, blank}
use Rattle.mam_keep.specs.InMemory.{AreCommitted}
use Rattle.mam_keep.proofs.committed.Committed.commit.Goals as goal

-- the changes are those from before and these
grown : (c : goal.After-self-1) → c.append.new.self.items ≡ c.args.self.now.appends ++ c.args.change.now.appends
grown c =
    c.in_ok-append.ensures.items
    ∙ ap (λ l. c.self.inside.log.items ++ l) (c.into_items.ensures ∙ c.in_ok-copies.ensures ∙ ap (λ (v : ChangeView). v.appends) c.change.view_is)
    ∙ ap (λ (v : ChangeView). v.appends ++ c.args.change.now.appends) c.self.view_is

pub invariant_of-self-2 : goal.invariant_of-self-2
invariant_of-self-2 c =
    let session : IsSession c.change.inside.session = subst (λ (v : ChangeView). IsSession v.session) (sym c.change.view_is) c.requires.session in
    let before : AreCommitted c.args.self.now.appends = subst (λ (v : ChangeView). AreCommitted v.appends) c.self.view_is c.self.invariant.1 in (
      session,
      subst AreCommitted (sym (grown c)) (record {
        each = all_append MayAppend c.args.self.now.appends c.args.change.now.appends before.each c.requires.appends;
        rise = λ owner. rise_append owner c.args.self.now.appends c.args.change.now.appends blank (before.rise owner) (c.requires.rise owner);
      }),
    )

pub returns-clause-made : goal.returns-clause-made
returns-clause-made c = record {
  session = ap (λ (v : ChangeView). v.session) c.change.view_is;
  each = λ owner. ap (λ l. after owner l blank) (grown c) ∙ after_append owner c.args.self.now.appends c.args.change.now.appends blank;
}
