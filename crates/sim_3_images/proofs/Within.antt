-- No more numbers are given than connections came.
use Rattle.std.proofs.Common.{ℕ, ◌+◌, ◌<◌, ◌≤◌, ◌^◌, List, [], arith}
use Rattle.srv_state.specs.Moments.{at_moment, gone_at, with_fresh}
use Rattle.srv_state.specs.State.{ServerState, Step}
use Rattle.xml_framer.specs.declared.items.Item.{Item}
use Rattle.sm_live.specs.Rule.{IsRule}
use Rattle.srv_login.specs.declared.account.Account.{Account}
use Rattle.srv_route.proofs.Rising.{none_ascend}
use Rattle.srv_core.specs.Configs.{server_state_at_start}
use Rattle.srv_core.specs.Table.{after_item}
use Rattle.sim_3_images.proofs.Falls.{Falls, every_one}
use Rattle.sim_3_images.proofs.ItemsFall.{item_falls}
use Rattle.sim_3_images.proofs.MomentsFall.{fresh_ordered, fresh_rises, gone_falls, moment_falls}
use Rattle.sim_3_images.specs.Unbound.{IsOrdered, IsWithin, Rests, unbound}
use Rattle.xml_writer.specs.Items.{ItemOut}

module _ {A : Type 0} where
  rests : (h g : ServerState A) → Falls every_one every_one h g → Rests h g
  rests h g fell = record { keeps = fell.keeps; no_more = fell.less }

  pub item_rests : (say : ItemOut → A) (k : ℕ) (i : Item) (s : Step A) → IsOrdered s.server_state → s.server_state.next + unbound s.server_state < 2 ^ 64 → Rests s.server_state (after_item say k i s).server_state
  item_rests say k i s is below = rests s.server_state (after_item say k i s).server_state (item_falls say k i s is below)

  pub gone_rests : (k : ℕ) (h : ServerState A) → IsOrdered h → Rests h (gone_at k h)
  gone_rests k h is = rests h (gone_at k h) (gone_falls k h is)

  pub moment_rests : (now : ℕ) (h : ServerState A) → IsOrdered h → Rests h (at_moment now h)
  moment_rests now h is = rests h (at_moment now h) (moment_falls now h is)

  -- ---- behind so many connections

  within : (n : ℕ) (h g : ServerState A) → IsWithin n h → Rests h g → IsWithin n g
  within n h g is rest =
      let few = is.few in
      let less = rest.no_more in
      record { ordered = rest.keeps; few = omega (arith, few, less) }

  pub start_within : (domain : List ℕ) (accounts : List Account) (keep : ℕ) → IsWithin {A = A} 0 (server_state_at_start domain accounts keep)
  start_within domain accounts keep = record { ordered = record { sessions = rule; conns = none_ascend }; few = omega arith }
    where
      rule : IsRule {A = A} [] 1
      rule = record {
        ascending = omega arith;
        fits = omega arith;
        conns = λ m n conn s t there. absurd (let no_way : ⊥ = cc in no_way);
        names = λ m n s t there. absurd (let no_way : ⊥ = cc in no_way);
        few = λ n s there. absurd (let no_way : ⊥ = cc in no_way);
      }

  pub item_within : (say : ItemOut → A) (k : ℕ) (i : Item) (n : ℕ) (s : Step A) → n + 1 < 2 ^ 64 → IsWithin n s.server_state → IsWithin n (after_item say k i s).server_state
  item_within say k i n s fits is = let few = is.few in within n s.server_state (after_item say k i s).server_state is (item_rests say k i s is.ordered (omega (arith, few, fits)))

  pub gone_within : (k n : ℕ) (h : ServerState A) → IsWithin n h → IsWithin n (gone_at k h)
  gone_within k n h is = within n h (gone_at k h) is (gone_rests k h is.ordered)

  pub moment_within : (now n : ℕ) (h : ServerState A) → IsWithin n h → IsWithin n (at_moment now h)
  moment_within now n h is = within n h (at_moment now h) is (moment_rests now h is.ordered)

  pub fresh_within : (k : ℕ) (entropy : List ℕ) (n : ℕ) (h : ServerState A) → IsWithin n h → IsWithin (n + 1) (with_fresh k entropy h)
  fresh_within k entropy n h is =
      let few = is.few in
      let more = fresh_rises k entropy h in
      record { ordered = fresh_ordered k entropy h is.ordered; few = omega (arith, few, more) }

  pub next_within : (n : ℕ) (h : ServerState A) → IsWithin n h → h.next ≤ n + 1
  next_within n h is = let few = is.few in omega (arith, few)
