-- What an observer's notes stand for, along events and looks.
use Rattle.std.proofs.Common.{◌≡◌, ℕ, ◌+◌, ◌≤◌, ◌==◌, Bool, true, false, cond, ◌++◌, Some, None, length, refl, sym, ap, ◌∙◌, subst, arith, inl, inr, le_refl}
use Rattle.std.specs.List.{filter, slice_get}
use Rattle.std.specs.Prelude.{drop}
use Rattle.std.proofs.lemmas.Bool.{eqb-true}
use Rattle.std.proofs.lemmas.List.{length-append}
use Rattle.std.proofs.lemmas.Option.{slice_get_within}
use Rattle.sim_1_applications.specs.Devices.{Device, Reading, Take, AppWorld, epoch_of, last_of}
use Rattle.sim_1_applications.specs.Events as events
use Rattle.sim_1_applications.specs.Kept.{AreTiles, Read, ends_at, is_of}
use Rattle.sim_1_applications.proofs.Fresh.{Seen}
use Rattle.sim_1_applications.proofs.Lists.{all_weaker}
use Rattle.law_intents.specs.Intents.{Notes, has_complete, observed}
use Rattle.law_intents.proofs.Ends.{Complete, answered_at, complete_at, complete_ends, ends_grow, le_two}
use Rattle.law_intents.proofs.Nexts.{Prev, epoch_rises, some_is}
use Rattle.law_intents.proofs.Pages.{seen_moves}
use Rattle.law_intents.proofs.Since.{Since, since_more, since_now}

-- pages from an index on were asked for since an epoch began
pub record Mark (i e mark : ℕ) (w : AppWorld) (d : Device) : Type 0 where
  pub l : ℕ
  pub first : ℕ
  pub since : Since i e l d.account w.takes
  pub seen : Seen l first (last_of w.takes d.account) d.reading
  pub few : first ≤ mark

-- what an archive had given when that epoch began is read
pub record Sure (i s : ℕ) (w : AppWorld) (d : Device) : Type 0 where
  pub l : ℕ
  pub since : Since i s l d.account w.takes
  pub read : l ≤ ends_at w.keep 0 d.reading.tiles

pub record Watched (i : ℕ) (w : AppWorld) (o : Notes) (d : Device) : Type 0 where
  pub present : Mark i (epoch_of d.sessions) (length d.reading.tiles) w d
  pub noted : Mark i o.seen o.mark w d
  pub sure : Sure i o.sure w d
  pub low : o.sure ≤ o.seen
  pub rises : o.seen ≤ epoch_of d.sessions

-- ---- events

pub since_next : (i e l : ℕ) (w next : AppWorld) (x : Device) (prev : Prev i w next x) → e ≤ epoch_of prev.d.sessions → Since i e l prev.d.account w.takes → Since i e l x.account next.takes
since_next i e l w next x prev below since =
    subst (λ a. Since i e l a next.takes) (sym prev.account)
    (subst (Since i e l prev.d.account) (sym prev.takes)
    (since_more i e l prev.d.account w.takes prev.new
    (all_weaker (λ (t : Take). t.said.epoch ≡ epoch_of prev.d.sessions) (λ t. e ≤ t.said.epoch) (filter (is_of i) prev.new) (λ t same. above below same) prev.later) since))
  where
    above : {a b c : ℕ} → a ≤ b → c ≡ b → a ≤ c
    above low is = omega arith

mark_moves : (i e mark more : ℕ) (event : events.AppEvent) (w next : AppWorld) (x : Device) → events.Moves event w next → slice_get next.devices i ≡ Some x → (prev : Prev i w next x) →
    e ≤ epoch_of prev.d.sessions → mark ≤ more → Mark i e mark w prev.d → Mark i e more next x
mark_moves i e mark more event w next x is at prev below wider kept =
    let there = seen_moves kept.l kept.first event w next i prev.d is prev.at kept.seen in
    let same : there.d ≡ x = some_is there.d x (sym there.at ∙ at) in
    record {
      l = kept.l;
      first = kept.first;
      since = since_next i e kept.l w next x prev below kept.since;
      seen = subst (λ (y : Device). Seen kept.l kept.first (last_of next.takes y.account) y.reading) same there.seen;
      few = le_two kept.few wider;
    }

pub fresh_seen : (l : ℕ) (b : Reading) → b.page ≡ None → Seen l (length b.tiles) l b
fresh_seen l b none = record {
  low = omega arith;
  tiles = λ k t at late. absurd (let within = slice_get_within b.tiles k t at in omega arith);
  page = λ p at late. absurd (let bad : ⊥ = cc in bad);
}

longer : (i : ℕ) (w next : AppWorld) (x : Device) (prev : Prev i w next x) → length prev.d.reading.tiles ≤ length x.reading.tiles
longer i w next x prev = above (length x.reading.tiles) (length prev.d.reading.tiles) (length prev.tiles.0) (ap (λ ts. length ts) prev.tiles.1 ∙ length-append prev.d.reading.tiles prev.tiles.0)
  where
    above : (a b c : ℕ) → a ≡ b + c → b ≤ a
    above a b c is = omega arith

present_moves : (i : ℕ) (event : events.AppEvent) (w next : AppWorld) (x : Device) → events.Moves event w next → slice_get next.devices i ≡ Some x → (prev : Prev i w next x) →
    Mark i (epoch_of prev.d.sessions) (length prev.d.reading.tiles) w prev.d → Mark i (epoch_of x.sessions) (length x.reading.tiles) next x
present_moves i event w next x is at prev kept = elim prev.epoch [
  | inl same ↦
      subst (λ e. Mark i e (length x.reading.tiles) next x) (sym same)
      (mark_moves i (epoch_of prev.d.sessions) (length prev.d.reading.tiles) (length x.reading.tiles) event w next x is at prev (le_refl (epoch_of prev.d.sessions)) (longer i w next x prev) kept)
  | inr more ↦
      record {
        l = last_of next.takes x.account;
        first = length x.reading.tiles;
        since = since_now i (epoch_of x.sessions) x.account next.takes;
        seen = fresh_seen (last_of next.takes x.account) x.reading more.1;
        few = le_refl (length x.reading.tiles);
      }
]

pub ends_next : (i : ℕ) (w next : AppWorld) (x : Device) (prev : Prev i w next x) → Read next → slice_get next.devices i ≡ Some x → ends_at w.keep 0 prev.d.reading.tiles ≤ ends_at next.keep 0 x.reading.tiles
ends_next i w next x prev read at =
    let last = last_of next.takes x.account in
    let tiles : AreTiles next.keep 0 0 last (prev.d.reading.tiles ++ prev.tiles.0) = subst (AreTiles next.keep 0 0 last) prev.tiles.1 (read.devices i x at).tiles.tiles in
    let grown = ends_grow next.keep 0 0 last prev.d.reading.tiles prev.tiles.0 read.keep (le_refl 0) tiles in
    subst (λ ts. ends_at w.keep 0 prev.d.reading.tiles ≤ ends_at next.keep 0 ts) (sym prev.tiles.1)
    (subst (λ k. ends_at k 0 prev.d.reading.tiles ≤ ends_at next.keep 0 (prev.d.reading.tiles ++ prev.tiles.0)) prev.keep grown)

pub watched_moves : (i : ℕ) (o : Notes) (event : events.AppEvent) (w next : AppWorld) (x : Device) → events.Moves event w next → Read next → slice_get next.devices i ≡ Some x → (prev : Prev i w next x) →
    Watched i w o prev.d → Watched i next o x
watched_moves i o event w next x is read at prev kept = record {
  present = present_moves i event w next x is at prev kept.present;
  noted = mark_moves i o.seen o.mark o.mark event w next x is at prev kept.rises (le_refl o.mark) kept.noted;
  sure = record {
    l = kept.sure.l;
    since = since_next i o.sure kept.sure.l w next x prev (le_two kept.low kept.rises) kept.sure.since;
    read = le_two kept.sure.read (ends_next i w next x prev read at);
  };
  low = kept.low;
  rises = le_two kept.rises (epoch_rises i w next x prev);
}

-- ---- a look

pub watched_looks : (i : ℕ) (o : Notes) (w : AppWorld) (d : Device) → Read w → slice_get w.devices i ≡ Some d → Watched i w o d → Watched i w (observed (epoch_of d.sessions) d.reading.tiles o) d
watched_looks i o w d read at kept = record {
  present = kept.present;
  noted = marked (epoch_of d.sessions == o.seen) refl;
  sure = surely (has_complete (drop o.mark d.reading.tiles)) refl;
  low = highest (has_complete (drop o.mark d.reading.tiles));
  rises = le_refl (epoch_of d.sessions);
}
  where
    marked : (b : Bool) → (epoch_of d.sessions == o.seen) ≡ b → Mark i (epoch_of d.sessions) (cond b o.mark (length d.reading.tiles)) w d
    marked true is = subst (λ e. Mark i e o.mark w d) (sym (eqb-true (epoch_of d.sessions) o.seen is)) kept.noted
    marked false is = kept.present

    surely : (c : Bool) → has_complete (drop o.mark d.reading.tiles) ≡ c → Sure i (cond c o.seen o.sure) w d
    surely false is = kept.sure
    surely true is =
        let whole : Complete o.mark d.reading.tiles = complete_at o.mark d.reading.tiles is in
        let tiles = (read.devices i d at).tiles.tiles in
        let last = last_of w.takes d.account in
        record {
          l = kept.noted.l;
          since = kept.noted.since;
          read = le_two (kept.noted.seen.tiles whole.index whole.tile whole.at (le_two kept.noted.few whole.late))
              (le_two (answered_at w.keep 0 0 last d.reading.tiles tiles whole.index whole.tile whole.at)
              (complete_ends w.keep 0 0 last d.reading.tiles read.keep (le_refl 0) tiles whole.index whole.tile whole.at whole.whole));
        }

    highest : (c : Bool) → cond c o.seen o.sure ≤ epoch_of d.sessions
    highest true = kept.rises
    highest false = le_two kept.low kept.rises
