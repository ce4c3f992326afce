-- What is put out for a connection goes into its pipe down or shuts it, and changes no other.
use Rattle.std.proofs.Common.{◌≡◌, ◌≢◌, ℕ, List, [], ◌∷◌, ◌++◌, Option, Some, None, nat_eq, refl, sym, ap, subst, ◌∙◌, inl, inr, map}
use Rattle.std.proofs.lemmas.Bool.{cases_eq}
use Rattle.std.specs.Option.{option_map}
use Rattle.srv_state.specs.State.{Out, Put, Shut, Took}
use Rattle.sim_3_items.specs.Pipes.{by_number, under}
use Rattle.sim_3_items.specs.Sent.{sent, sent_one, sent_under, where_it}
use Rattle.sim_3_images.proofs.ItemsHeard.{entered_twice, nothing_entered}
use Rattle.sim_3_items.specs.ItemMoves.{all_emitted, emitted}
use Rattle.sim_3_items.specs.ItemPipes.{ItemWire, put_down, shut}
use Rattle.sim_2_links.proofs.Entries.{other_number, same_number}
use Rattle.sim_4_links_follow.proofs.Changes.{under_changed, under_other}
use Rattle.cmd_network.specs.Positions.{changed_under}
use Rattle.xml_writer.specs.Items.{ItemOut}

pub mapped_same : {T : Type 0} (o : Option T) → option_map (λ t. t) o ≡ o
mapped_same None = refl
mapped_same (Some t) = refl

pub mapped_twice : {T U V : Type 0} (f : T → U) (g : U → V) (o : Option T) → option_map g (option_map f o) ≡ option_map (λ t. g (f t)) o
mapped_twice f g None = refl
mapped_twice f g (Some t) = refl

pub changed_one : (k j : ℕ) (f : ItemWire → ItemWire) (wires : List ItemWire) → under k (changed_under j f wires) ≡ option_map (where_it (nat_eq j k) f) (under k wires)
changed_one k j f wires =
    elim (cases_eq j k) [
      | inl same ↦ subst (λ n. under n (changed_under j f wires) ≡ option_map (where_it (nat_eq j n) f) (under n wires)) same
          (under_changed j f wires ∙ ap (λ b. option_map (where_it b f) (under j wires)) (sym (same_number j)))
      | inr apart ↦ under_other j k f wires apart ∙ sym (mapped_same (under k wires)) ∙ ap (λ b. option_map (where_it b f) (under k wires)) (sym (other_number j k apart))
    ]

pub emitted_one : (k : ℕ) (o : Out ItemOut) (wires : List ItemWire) → under k (emitted o wires) ≡ option_map (sent_one k o) (under k wires)
emitted_one k (Put j i) wires = changed_one k j (put_down (i ∷ [])) wires
emitted_one k (Shut j) wires = changed_one k j shut wires
emitted_one k (Took from to origin) wires = sym (mapped_same (under k wires))

pub all_sent : (k : ℕ) (outs : List (Out ItemOut)) (wires : List ItemWire) → under k (all_emitted outs wires) ≡ sent outs (by_number wires) k
all_sent k [] wires = sym (mapped_same (under k wires))
all_sent k (o ∷ outs) wires =
    all_sent k outs (emitted o wires) ∙ ap (option_map (sent_under k outs)) (emitted_one k o wires) ∙ mapped_twice (sent_one k o) (sent_under k outs) (under k wires)

-- ---- on one connection

abbrev pub puts_at : ℕ → List ItemOut → List (Out ItemOut)
puts_at k items = map (Put k) items

pub one_here : (k : ℕ) (f : ItemWire → ItemWire) (w : ItemWire) → where_it (nat_eq k k) f w ≡ f w
one_here k f w = ap (λ b. where_it b f w) (same_number k)

pub one_apart : (k j : ℕ) (f : ItemWire → ItemWire) (w : ItemWire) → k ≢ j → where_it (nat_eq k j) f w ≡ w
one_apart k j f w apart = ap (λ b. where_it b f w) (other_number k j apart)

pub puts_here : (k : ℕ) (items : List ItemOut) (w : ItemWire) → sent_under k (puts_at k items) w ≡ put_down items w
puts_here k [] w = ap (λ p. record w { down = p }) (sym (nothing_entered w.down))
puts_here k (i ∷ items) w =
    ap (sent_under k (puts_at k items)) (one_here k (put_down (i ∷ [])) w)
    ∙ puts_here k items (put_down (i ∷ []) w)
    ∙ ap (λ p. record w { down = p }) (entered_twice (i ∷ []) items w.down)

pub puts_apart : (k j : ℕ) (items : List ItemOut) (w : ItemWire) → k ≢ j → sent_under j (puts_at k items) w ≡ w
puts_apart k j [] w apart = refl
puts_apart k j (i ∷ items) w apart = ap (sent_under j (puts_at k items)) (one_apart k j (put_down (i ∷ [])) w apart) ∙ puts_apart k j items w apart

pub sent_both : (k : ℕ) (outs more : List (Out ItemOut)) (w : ItemWire) → sent_under k (outs ++ more) w ≡ sent_under k more (sent_under k outs w)
sent_both k [] more w = refl
sent_both k (o ∷ outs) more w = sent_both k outs more (sent_one k o w)

-- they are all for this connection
abbrev pub AreFor : ℕ → List (Out ItemOut) → Type 0
AreFor k outs = (j : ℕ) (w : ItemWire) → k ≢ j → sent_under j outs w ≡ w

pub puts_are_for : (k : ℕ) (items : List ItemOut) → AreFor k (puts_at k items)
puts_are_for k items j w apart = puts_apart k j items w apart

pub both_are_for : (k : ℕ) (outs more : List (Out ItemOut)) → AreFor k outs → AreFor k more → AreFor k (outs ++ more)
both_are_for k outs more some others j w apart = sent_both j outs more w ∙ ap (sent_under j more) (some j w apart) ∙ others j w apart

pub shut_is_for : (k : ℕ) → AreFor k (Shut k ∷ [])
shut_is_for k j w apart = one_apart k j shut w apart
