-- The stanzas that the server puts, of bytes and of items, one after another.
use Rattle.std.proofs.Common.{◌≡◌, ℕ, zero, suc, ◌&&◌, Bool, true, false, cond, List, [], ◌∷◌, ◌++◌, Option, Some, None, map, drop, length, nat_eq, slice_get, refl, sym, ap, ap₂, ◌∙◌, append_assoc, append-nil}
use Rattle.std.proofs.lemmas.List.{drop-map, length-map, map-append}
use Rattle.std.specs.Option.{option_map}
use Rattle.cl_handlers.specs.declared.account.Account.{Account}
use Rattle.law_server.proofs.EventsRendered.{item_rendered}
use Rattle.law_server.proofs.SessionsRendered.{named_rendered}
use Rattle.law_server.specs.Rendered.{outs_rendered, server_state_rendered, session_rendered, step_rendered}
use Rattle.law_xml.specs.Spells.{placed}
use Rattle.sim_3_images.proofs.AfterOuts.{following, item_after}
use Rattle.sim_3_images.proofs.ReadsTold.{here_rendered, here_unplaced, item_unplaced}
use Rattle.sim_3_images.specs.ItemRuns.{downs, moved_where, ups}
use Rattle.sim_3_images.specs.Puts.{all_item_gives, begins_stanza, given_along, given_by, given_here, given_to, given_where, is_put_as_stanza, item_gives, item_given_on, joined, puts_on, session_by, session_for}
use Rattle.sim_3_images.specs.Reads.{read_where}
use Rattle.sim_3_items.specs.ItemMoves as items
use Rattle.sim_3_items.specs.ItemMoves.{ItemMove, all_moved, moved, served_by, served_first}
use Rattle.sim_3_items.specs.ItemPipes.{ItemWire}
use Rattle.sim_3_items.specs.ItemWorlds.{ItemWorld, itself}
use Rattle.sm_live.specs.Sessions.{Session}
use Rattle.srv_core.specs.Table.{after_item, at_open}
use Rattle.srv_login.specs.Accounts.{FoundView, account_named}
use Rattle.srv_state.specs.State.{Out, Put, ServerState, Shut, Step, Took, conn_at}
use Rattle.srv_state.specs.Steps.{acted}
use Rattle.srv_state.specs.Streams.{standing_of}
use Rattle.xml_framer.specs.declared.items.Item.{Item}
use Rattle.xml_writer.specs.Items.{ItemOut, written_item}

-- ---- moves by which nothing goes up

pub gives_joined : (first second : List ItemMove) (v : ItemWorld) (i : ℕ) → all_item_gives (first ++ second) v i ≡ all_item_gives first v i ++ all_item_gives second (all_moved first v) i
gives_joined [] second v i = refl
gives_joined (m ∷ first) second v i =
    ap (λ l. item_gives m v i ++ l) (gives_joined first second (moved m v) i) ∙ sym (append_assoc (item_gives m v i) (all_item_gives first (moved m v) i) (all_item_gives second (all_moved first (moved m v)) i))

only_downs : (position count : ℕ) (v : ItemWorld) (i : ℕ) → all_item_gives (downs position count) v i ≡ []
only_downs position zero v i = refl
only_downs position (suc count) v i = only_downs position count (moved (items.Down position) v) i

pub downs_give : (position count : ℕ) (ended : Bool) (v : ItemWorld) (i : ℕ) → all_item_gives (downs position count ++ moved_where (items.DownEnd position) ended) v i ≡ []
downs_give position count ended v i = gives_joined (downs position count) (moved_where (items.DownEnd position) ended) v i ∙ ap₂ (λ a b. a ++ b) (only_downs position count v i) (by ended)
  where
    by : (b : Bool) → all_item_gives (moved_where (items.DownEnd position) b) (all_moved (downs position count) v) i ≡ []
    by true = refl
    by false = refl

-- nor by an end that is told to the server
pub up_end_gives : (position : ℕ) (first : List ItemMove) (ended : Bool) (v : ItemWorld) (i : ℕ) → all_item_gives (first ++ moved_where (items.UpEnd position) ended) v i ≡ all_item_gives first v i
up_end_gives position first ended v i = gives_joined first (moved_where (items.UpEnd position) ended) v i ∙ ap (λ l. all_item_gives first v i ++ l) (by ended) ∙ append-nil (all_item_gives first v i)
  where
    by : (b : Bool) → all_item_gives (moved_where (items.UpEnd position) b) (all_moved first v) i ≡ []
    by true = refl
    by false = refl

-- ---- into nobody's session nothing is put

up_devices : (position : ℕ) (v : ItemWorld) → (moved (items.Up position) v).devices ≡ v.devices
up_devices position v = on (slice_get v.wires position)
  where
    first : (under_way : List ItemOut) → (served_first position under_way v).devices ≡ v.devices
    first [] = refl
    first (z ∷ under_way) = refl

    on : (o : Option ItemWire) → (served_by position o v).devices ≡ v.devices
    on None = refl
    on (Some wire) = first wire.up.items

pub nobody_given : (position n i : ℕ) (v : ItemWorld) → slice_get v.devices i ≡ None → all_item_gives (ups position n) v i ≡ []
nobody_given position zero i v none = refl
nobody_given position (suc n) i v none =
    ap₂ (λ a b. a ++ b) (ap (λ o. item_given_on position v o (slice_get v.wires position)) none) (nobody_given position n i (moved (items.Up position) v) (ap (λ l. slice_get l i) (up_devices position v) ∙ none))

-- ---- what was put out before is not looked at

pub given_following : {A : Type 0} (o : List (Out A)) (say : ItemOut → A) (is : A → Bool) (who : Account) (k : ℕ) (l : List Item) (s : Step A) → given_along say is who k l (following o s) ≡ given_along say is who k l s
given_following o say is who k [] s = refl
given_following o say is who k (i ∷ l) s =
    ap (λ t. given_here say is who k i s.server_state ++ given_along say is who k l t) (item_after o say k i s) ∙ ap (λ m. given_here say is who k i s.server_state ++ m) (given_following o say is who k l (after_item say k i s))

-- ---- nor the place of a header

put_unplaced : {A : Type 0} (say : ItemOut → A) (is : A → Bool) (who : Account) (k : ℕ) (i : Item) (h : ServerState A) → given_here say is who k i h ≡ given_here say is who k (placed 0 i) h
put_unplaced say is who k i h = ap₂ (λ l t. given_where is who l h t) (here_unplaced k i (conn_at k h) h) (item_unplaced say k i (record { server_state = h; outs = [] }))

pub given_unplaced : {A : Type 0} (say : ItemOut → A) (is : A → Bool) (who : Account) (k : ℕ) (l : List Item) (s : Step A) → given_along say is who k l s ≡ given_along say is who k (map (placed 0) l) s
given_unplaced say is who k [] s = refl
given_unplaced say is who k (i ∷ l) s =
    ap₂ (λ a t. a ++ given_along say is who k l t) (put_unplaced say is who k i s.server_state) (item_unplaced say k i s)
    ∙ ap (λ m. given_here say is who k (placed 0 i) s.server_state ++ m) (given_unplaced say is who k l (after_item say k (placed 0 i) s))

-- ---- on a connection that isn't open nothing is read

pub nothing_given : (who : Account) (k : ℕ) (coming : List Item) (s : Step ItemOut) → conn_at k s.server_state ≡ None → given_along itself is_put_as_stanza who k coming s ≡ []
nothing_given who k [] s none = refl
nothing_given who k (i ∷ coming) s none =
    ap₂ (λ a b. a ++ b) (ap (λ o. given_where is_put_as_stanza who (read_where o k i s.server_state) s.server_state (after_item itself k i (record { server_state = s.server_state; outs = [] }))) none)
    (ap (λ o. given_along itself is_put_as_stanza who k coming (acted itself (at_open itself k i (option_map standing_of o) s.server_state) s)) none ∙ nothing_given who k coming s none)

-- ---- as they are written

one_put : (b : Bool) (z : ItemOut) → cond b (written_item z ∷ []) [] ≡ map written_item (cond b (z ∷ []) [])
one_put true z = refl
one_put false z = refl

puts_rendered : (k : ℕ) (outs : List (Out ItemOut)) → puts_on begins_stanza k (outs_rendered written_item outs) ≡ map written_item (puts_on is_put_as_stanza k outs)
puts_rendered k [] = refl
puts_rendered k (Put j z ∷ outs) =
    ap₂ (λ a b. a ++ b) (one_put (nat_eq j k && is_put_as_stanza z) z) (puts_rendered k outs) ∙ sym (map-append written_item (cond (nat_eq j k && is_put_as_stanza z) (z ∷ []) []) (puts_on is_put_as_stanza k outs))
puts_rendered k (Shut j ∷ outs) = puts_rendered k outs
puts_rendered k (Took from to origin ∷ outs) = puts_rendered k outs

joined_rendered : (t : Session ItemOut) (o : Option (Session ItemOut)) → joined (session_rendered written_item t) (option_map (session_rendered written_item) o) ≡ map written_item (joined t o)
joined_rendered t None = refl
joined_rendered t (Some u) = ap (λ n. drop n (map written_item u.waiting)) (length-map t.waiting written_item) ∙ drop-map written_item (length t.waiting) u.waiting

for_rendered : (who : Account) (h : ServerState ItemOut) → session_for who (server_state_rendered written_item h) ≡ option_map (session_rendered written_item) (session_for who h)
for_rendered who h = by (account_named who.login.name h.accounts)
  where
    by : (o : Option FoundView) → session_by o who.resource (server_state_rendered written_item h) ≡ option_map (session_rendered written_item) (session_by o who.resource h)
    by None = refl
    by (Some found) = named_rendered written_item found.position who.resource h.sessions

by_rendered : (who : Account) (t : Session ItemOut) (o : Option ℕ) (s : Step ItemOut) → given_by begins_stanza who (session_rendered written_item t) o (step_rendered written_item s) ≡ map written_item (given_by is_put_as_stanza who t o s)
by_rendered who t (Some k) s = puts_rendered k s.outs
by_rendered who t None s = ap (joined (session_rendered written_item t)) (for_rendered who s.server_state) ∙ joined_rendered t (session_for who s.server_state)

to_rendered : (who : Account) (o : Option (Session ItemOut)) (s : Step ItemOut) → given_to begins_stanza who (option_map (session_rendered written_item) o) (step_rendered written_item s) ≡ map written_item (given_to is_put_as_stanza who o s)
to_rendered who None s = refl
to_rendered who (Some t) s = by_rendered who t t.shown.conn s

where_rendered : (who : Account) (read : List ItemOut) (h : ServerState ItemOut) (s : Step ItemOut) → given_where begins_stanza who read (server_state_rendered written_item h) (step_rendered written_item s) ≡ map written_item (given_where is_put_as_stanza who read h s)
where_rendered who [] h s = refl
where_rendered who (z ∷ read) h s = ap (λ o. given_to begins_stanza who o (step_rendered written_item s)) (for_rendered who h) ∙ to_rendered who (session_for who h) s

put_rendered : (who : Account) (k : ℕ) (i : Item) (h : ServerState ItemOut) → given_here written_item begins_stanza who k i (server_state_rendered written_item h) ≡ map written_item (given_here itself is_put_as_stanza who k i h)
put_rendered who k i h =
    let s : Step ItemOut = record { server_state = h; outs = [] } in
    ap₂ (λ l t. given_where begins_stanza who l (server_state_rendered written_item h) t) (here_rendered k i (conn_at k h) h) (item_rendered written_item itself k i s)
    ∙ where_rendered who (read_where (conn_at k h) k i h) h (after_item itself k i s)

pub given_rendered : (who : Account) (k : ℕ) (l : List Item) (s : Step ItemOut) → given_along written_item begins_stanza who k l (step_rendered written_item s) ≡ map written_item (given_along itself is_put_as_stanza who k l s)
given_rendered who k [] s = refl
given_rendered who k (i ∷ l) s =
    ap₂ (λ a t. a ++ given_along written_item begins_stanza who k l t) (put_rendered who k i s.server_state) (item_rendered written_item itself k i s)
    ∙ ap (λ m. map written_item (given_here itself is_put_as_stanza who k i s.server_state) ++ m) (given_rendered who k l (after_item itself k i s))
    ∙ sym (map-append written_item (given_here itself is_put_as_stanza who k i s.server_state) (given_along itself is_put_as_stanza who k l (after_item itself k i s)))
