-- What the server puts out, done to the connections by their numbers.
use Rattle.std.specs.Prelude.{ℕ, Bool, true, false, List, [], ◌∷◌, nat_eq}
use Rattle.std.specs.Option.{option_map}
use Rattle.srv_state.specs.State.{Out, Put, Shut, Took}
use Rattle.sim_3_items.specs.ItemPipes.{ItemWire, put_down, shut}
use Rattle.sim_2_links.specs.Views.{Table}
use Rattle.xml_writer.specs.Items.{ItemOut}

abbrev pub where_it : Bool → (ItemWire → ItemWire) → ItemWire → ItemWire
where_it true f w = f w
where_it false f w = w

-- done to the connection with this number
abbrev pub sent_one : ℕ → Out ItemOut → ItemWire → ItemWire
sent_one k (Put j i) w = where_it (nat_eq j k) (put_down (i ∷ [])) w
sent_one k (Shut j) w = where_it (nat_eq j k) shut w
sent_one k (Took from to origin) w = w

abbrev pub sent_under : ℕ → List (Out ItemOut) → ItemWire → ItemWire
sent_under k [] w = w
sent_under k (o ∷ outs) w = sent_under k outs (sent_one k o w)

-- done to all
abbrev pub sent : List (Out ItemOut) → Table ItemWire → Table ItemWire
sent outs wires = λ k. option_map (sent_under k outs) (wires k)
