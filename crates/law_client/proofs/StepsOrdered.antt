-- Items, pieces of bytes and calls put in order.
use Rattle.std.proofs.Common.{◌≡◌, ℕ, Bool, true, false, List, [], ◌∷◌, ◌++◌, Option, Some, None, IfSome, Result, Ok, Err, inl, inr, refl, sym, ap, ◌∙◌, subst, append_assoc, append-nil, if◌then◌else◌}
use Rattle.std.specs.List.{AllByRecursion}
use Rattle.cl_core.specs.Feeds.{Fed, bytes_in, bytes_step, read, with_fault}
use Rattle.cl_core.specs.Steps.{connected_step, item_step, items_run}
use Rattle.cl_core.specs.UserCalls.{catches_up, closes, dials, forgets, leaves, says}
use Rattle.cl_login.specs.LoginRows as rows
use Rattle.law_client.proofs.RowsPut.{ArePut, Asked, IsOfOwn, Items, Step, catches_up_puts, connected_puts, says_puts}
use Rattle.law_client.specs.Order.{HasNoEnd, IsNoEnd, PutsHeader, PutsInOrder}
use Rattle.cl_handlers.specs.Speech.{in_items}
use Rattle.cl_handlers.specs.ClientSteps.{ends, is_apart, is_online}
use Rattle.cl_handlers.specs.declared.events.PeerFault.TheVariants.{Framing}
use Rattle.cl_handlers.specs.declared.phase.Phase as client
use Rattle.cl_handlers.specs.declared.phase.Phase.TheVariants as phase
use Rattle.xml_framer.specs.States.{State}
use Rattle.xml_framer.specs.declared.fault.Fault.{Fault}
use Rattle.xml_framer.specs.declared.items.Item.{Item}
use Rattle.xml_framer.specs.declared.states.Phase.{Phase}
use Rattle.xml_framer.specs.declared.states.Phase.TheVariants as stream
use Rattle.law_xml.specs.PutLists.{MayAll, phase_after}
use Rattle.auth_scram.specs.Exchange.{ClientView as Exchange, begun_client}
use Rattle.auth_scram.specs.declared.fault.ScramFault.{ScramFault}
use Rattle.xml_writer.specs.Items.{Closing, ItemOut}
use Rattle.law_xml.specs.Puts.{phase_behind}
use Rattle.std.proofs.lemmas.Bool.{both_ways}

-- ---- what the rows put

own : IsOfOwn IsNoEnd
own = record { element = λ e a b. refl; header = λ h. refl }

begun : (r : Result Exchange ScramFault) → IfSome (rows.begun r).put IsNoEnd
begun (Ok exchange) = refl
begun (Err why) = tt

may_all : (more : List ItemOut) → AllByRecursion IsNoEnd more → MayAll stream.Between more
may_all [] h = tt
may_all (item ∷ rest) h = (tt, subst (λ (p : Phase). MayAll p rest) (sym h.0) (may_all rest h.1))

still_between : (more : List ItemOut) → AllByRecursion IsNoEnd more → phase_after stream.Between more ≡ stream.Between
still_between [] h = refl
still_between (item ∷ rest) h = subst (λ (p : Phase). phase_after p rest ≡ stream.Between) (sym h.0) (still_between rest h.1)

may_put : (apart : Bool) (more : List ItemOut) → ArePut IsNoEnd apart more → MayAll stream.Between more
may_put apart more (inl each) = may_all more each
may_put apart more (inr last) = subst (MayAll stream.Between) (sym last.1) (tt, subst (λ (p : Phase). MayAll p (Closing ∷ [])) (sym last.2) (tt, tt))

stands_put : (apart : Bool) (more : List ItemOut) → ArePut IsNoEnd apart more → apart ≡ false → phase_after stream.Between more ≡ stream.Between
stands_put apart more (inl each) stands = still_between more each
stands_put apart more (inr last) stands = absurd (both_ways apart stands last.3)

-- ---- steps, one behind the other

-- where a connection stands it isn't silent
while_connected : (t u : Items) → is_apart t.client.phase ≡ false → Step IsNoEnd t u → PutsInOrder t u
while_connected t u connected step = record {
  more = step.more;
  put = step.put;
  may = may_put (is_apart u.client.phase) step.more step.each;
  stands = stands_put (is_apart u.client.phase) step.more step.each;
  silent = λ apart. absurd (both_ways (is_apart t.client.phase) connected apart);
  queue = step.queue;
}

silent_step : (t u : Items) → u.out.put ≡ t.out.put → HasNoEnd u.client.session → PutsInOrder t u
silent_step t u same queue = record { more = []; put = same ∙ sym (append-nil t.out.put); may = tt; stands = λ e. refl; silent = λ apart. refl; queue = queue }

may_join : (p : Phase) (xs ys : List ItemOut) → MayAll p xs → MayAll (phase_after p xs) ys → MayAll p (xs ++ ys)
may_join p [] ys h k = k
may_join p (x ∷ xs) ys h k = (h.0, may_join (phase_behind x) xs ys h.1 k)

after_join : (p : Phase) (xs ys : List ItemOut) → phase_after p (xs ++ ys) ≡ phase_after (phase_after p xs) ys
after_join p [] ys = refl
after_join p (x ∷ xs) ys = after_join (phase_behind x) xs ys

-- what comes behind may be put: where the connection stands still, and where nothing comes
may_after : (xs ys : List ItemOut) (apart : Bool) → (apart ≡ false → phase_after stream.Between xs ≡ stream.Between) → (apart ≡ true → ys ≡ []) → MayAll stream.Between ys → MayAll (phase_after stream.Between xs) ys
may_after xs ys true stands silent may = subst (MayAll (phase_after stream.Between xs)) (sym (silent refl)) tt
may_after xs ys false stands silent may = subst (λ (p : Phase). MayAll p ys) (sym (stands refl)) may

after_after : (xs ys : List ItemOut) (apart : Bool) → (apart ≡ false → phase_after stream.Between xs ≡ stream.Between) → (apart ≡ true → ys ≡ []) → phase_after stream.Between ys ≡ stream.Between → (apart ≡ true → ⊥) → phase_after (phase_after stream.Between xs) ys ≡ stream.Between
after_after xs ys true stands silent after connected = absurd (connected refl)
after_after xs ys false stands silent after connected = ap (λ (p : Phase). phase_after p ys) (stands refl) ∙ after

-- once apart, items leave it so
record Follows (t u : Items) : Type 0 where
  puts : PutsInOrder t u
  apart : is_apart t.client.phase ≡ true → is_apart u.client.phase ≡ true

joins : (t u v : Items) → Follows t u → Follows u v → Follows t v
joins t u v a b =
    let x = a.puts in
    let y = b.puts in
    record {
      puts = record {
        more = x.more ++ y.more;
        put = y.put ∙ ap (λ put. put ++ y.more) x.put ∙ append_assoc t.out.put x.more y.more;
        may = may_join stream.Between x.more y.more x.may (may_after x.more y.more (is_apart u.client.phase) x.stands y.silent y.may);
        stands = λ e. after_join stream.Between x.more y.more ∙ after_after x.more y.more (is_apart u.client.phase) x.stands y.silent (y.stands e) (λ is. both_ways (is_apart v.client.phase) e (b.apart is));
        silent = λ e. ap (λ put. put ++ y.more) (x.silent e) ∙ y.silent (a.apart e);
        queue = y.queue;
      };
      apart = λ e. b.apart (a.apart e);
    }

-- ---- items

item_follows : (t : Items) (item : Item) → HasNoEnd t.client.session → Follows t (item_step in_items t item)
item_follows t item h = by_case (is_apart t.client.phase) refl
  where
    by_case : (b : Bool) → is_apart t.client.phase ≡ b → Follows t (if b then t else connected_step in_items t item)
    by_case true is = record { puts = silent_step t t refl h; apart = λ e. e }
    by_case false is = record { puts = while_connected t (connected_step in_items t item) is (connected_puts IsNoEnd own t item (λ nonce at. begun (begun_client t.client.account.login.name t.client.account.login.password nonce)) h); apart = λ e. absurd (both_ways (is_apart t.client.phase) is e) }

items_follow : (items : List Item) (t : Items) → HasNoEnd t.client.session → Follows t (items_run in_items t items)
items_follow [] t h = record { puts = silent_step t t refl h; apart = λ e. e }
items_follow (item ∷ items) t h =
    let one = item_follows t item h in
    joins t (item_step in_items t item) _ one (items_follow items (item_step in_items t item) one.puts.queue)

pub items_ordered : (items : List Item) (t : Items) → HasNoEnd t.client.session → PutsInOrder t (items_run in_items t items)
items_ordered items t h = (items_follow items t h).puts

-- ---- pieces of bytes

fault_follows : (t : Items) (o : Option Fault) → HasNoEnd t.client.session → Follows t (with_fault t o)
fault_follows t None h = record { puts = silent_step t t refl h; apart = λ e. e }
fault_follows t (Some fault) h = by_case (is_apart t.client.phase)
  where
    by_case : (b : Bool) → Follows t (if b then t else ends t (Framing fault))
    by_case true = record { puts = silent_step t t refl h; apart = λ e. e }
    by_case false = record { puts = silent_step t (ends t (Framing fault)) refl h; apart = λ e. refl }

piece_ordered : (t : Items) (o : Option State) (piece : List ℕ) → HasNoEnd t.client.session → PutsInOrder t (bytes_in in_items t o piece).turn
piece_ordered t None piece h = silent_step t t refl h
piece_ordered t (Some state) piece h =
    let run = read state piece in
    let some = items_follow run.items t h in
    (joins t (items_run in_items t run.items) _ some (fault_follows (items_run in_items t run.items) run.state.fault some.puts.queue)).puts

pub bytes_ordered : (f : Fed ItemOut ItemOut) (piece : List ℕ) → HasNoEnd f.turn.client.session → PutsInOrder f.turn (bytes_step in_items f piece).turn
bytes_ordered f piece h = piece_ordered f.turn f.framer piece h

-- ---- connections

pub dials_ordered : (f : Fed ItemOut ItemOut) (entropy : List ℕ) → HasNoEnd f.turn.client.session → PutsHeader f.turn (dials in_items entropy f).turn
dials_ordered f entropy h = record { put = refl; stands = refl; queue = h }

pub leaves_ordered : (f : Fed ItemOut ItemOut) → HasNoEnd f.turn.client.session → PutsInOrder f.turn (leaves f).turn
leaves_ordered f h = silent_step f.turn (leaves f).turn refl h

pub forgets_ordered : (f : Fed ItemOut ItemOut) → HasNoEnd f.turn.client.session → PutsInOrder f.turn (forgets in_items f).turn
forgets_ordered f h = silent_step f.turn (forgets in_items f).turn refl tt

-- the footer is the last, where a connection stands
pub closes_ordered : (f : Fed ItemOut ItemOut) → HasNoEnd f.turn.client.session → PutsInOrder f.turn (closes in_items f).turn
closes_ordered f h = record { more = footer (is_apart f.turn.client.phase); put = put_is (is_apart f.turn.client.phase); may = may_end (is_apart f.turn.client.phase); stands = λ e. absurd (cc e); silent = λ e. ap footer e; queue = tt }
  where
    footer : Bool → List ItemOut
    footer true = []
    footer false = Closing ∷ []

    put_is : (b : Bool) → (if b then f.turn else record f.turn { out = record f.turn.out { put = f.turn.out.put ++ Closing ∷ [] } }).out.put ≡ f.turn.out.put ++ footer b
    put_is true = sym (append-nil f.turn.out.put)
    put_is false = refl

    may_end : (b : Bool) → MayAll stream.Between (footer b)
    may_end true = tt
    may_end false = (tt, tt)

-- ---- what the user asks for

pub apart_offline : (p : client.Phase) → is_apart p ≡ true → is_online p ≡ false
apart_offline phase.Apart e = refl
apart_offline (phase.Login s) e = absurd (cc e)
apart_offline phase.Features2 e = absurd (cc e)
apart_offline phase.Resuming e = absurd (cc e)
apart_offline phase.Binding e = absurd (cc e)
apart_offline phase.Enabling e = absurd (cc e)
apart_offline phase.Online e = absurd (cc e)

as_asked : (t u : Items) → Asked IsNoEnd t u → PutsInOrder t u
as_asked t u asked =
    let step = asked.step in
    record {
      more = step.more;
      put = step.put;
      may = may_put (is_apart u.client.phase) step.more step.each;
      stands = stands_put (is_apart u.client.phase) step.more step.each;
      silent = λ e. asked.quiet (apart_offline t.client.phase e);
      queue = step.queue;
    }

pub says_ordered : (t : Items) (to text : List ℕ) (private : Bool) → HasNoEnd t.client.session → PutsInOrder t (says in_items t to text private)
says_ordered t to text private h = as_asked t _ (says_puts IsNoEnd own t to text private h refl)

pub catches_up_ordered : (t : Items) (max : ℕ) → HasNoEnd t.client.session → PutsInOrder t (catches_up in_items t max)
catches_up_ordered t max h = as_asked t _ (catches_up_puts IsNoEnd own t max h)
