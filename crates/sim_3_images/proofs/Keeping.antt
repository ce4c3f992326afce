-- Both cores keep to the limits of one another.
use Rattle.std.proofs.Common.{◌≡◌, ℕ, ◌⊎◌, Bool, true, false, List, [], ◌∷◌, ◌++◌, Option, Some, None, refl, subst, ap, sym, ◌∙◌, arith, inl, inr}
use Rattle.std.specs.List.{AllByRecursion}
use Rattle.cl_core.specs.Steps.{item_step}
use Rattle.cl_core.specs.UserCalls.{catches_up, catches_up_in, dials, says, submission_of, submits}
use Rattle.law_limits.proofs.ClientStepsKept.{catches_up_within, dials_within, forgets_within, items_within, leaves_within, says_within}
use Rattle.law_limits.specs.Within.{IsClientStepWithin}
use Rattle.law_client.proofs.StepsOrdered.{catches_up_ordered, dials_ordered, items_ordered, says_ordered}
use Rattle.law_client.specs.Order.{HasNoEnd, PutsInOrder}
use Rattle.cl_handlers.specs.Clients.{ClientStep, ClientView}
use Rattle.cl_handlers.specs.Speech.{in_items}
use Rattle.cl_handlers.specs.ClientSteps.{is_apart}
use Rattle.sim_3_images.proofs.UpComes.{drawn, up_comes}
use Rattle.sim_3_images.proofs.Waiting.{gone_answers, moment_answers}
use Rattle.sim_3_images.specs.Relayable.{ClientFits, DownFits, IsAnswered, IsRelayable, ServerFits, UpFits}
use Rattle.sim_3_images.specs.CoresOwed.{ClientIsRelayable, ClientStepIsRelayable, ServerAnswers}
use Rattle.srv_state.specs.State.{Out, Put, ServerState, Shut, Took}
use Rattle.xml_framer.specs.Limits.{server_limits}
use Rattle.xml_framer.specs.declared.states.Phase.{Phase}
use Rattle.xml_framer.specs.declared.states.Phase.TheVariants as stream
use Rattle.sim_3_images.specs.EncodingsCores.{ClientStepFits, HeardFits, IsInClientStep, IsNoFooter}
use Rattle.sim_3_images.specs.EncodingsOwed.{CoresKeep}
use Rattle.sim_3_images.specs.Stands.{OutPuts}
use Rattle.sim_3_items.specs.ItemMoves.{fed_of, step_of}
use Rattle.sim_3_items.specs.ItemWorlds.{itself, read_of, silent_client_step}
use Rattle.sm_outbox.specs.Sessions.{SessionView}
use Rattle.sm_outbox.specs.Submissions.{said_of}
use Rattle.sm_outbox.specs.declared.said.Said.{Said}
use Rattle.law_xml.specs.PutLists.{MayAll, phase_after}
use Rattle.cmd_report.specs.Addresses.{bare_address}
use Rattle.law_limits.proofs.NamesWithin.{address_within, text_within}
use Rattle.srv_core.specs.Table.{after_item}
use Rattle.law_limits.proofs.MomentsKept.{fresh_kept, gone_kept, moment_kept}
use Rattle.law_limits.proofs.TableKept.{after_kept}
use Rattle.law_limits.specs.Keeps.{OutIsRead, ServerKeeps, StepKeeps}
use Rattle.cmd_world.specs.Worlds.{client_entropy, server_entropy}
use Rattle.xml_writer.specs.Items.{Closing, ItemOut, Opening, Whole}
use Rattle.law_xml.specs.Puts.{OutFits, phase_behind}

-- ---- lists

both : {A : Type 0} (P Q : A → Type 0) (xs : List A) → AllByRecursion P xs → AllByRecursion Q xs → AllByRecursion (λ x. P x × Q x) xs
both P Q [] h k = tt
both P Q (x ∷ xs) h k = ((h.0, k.0), both P Q xs h.1 k.1)

out_both : (o : Out ItemOut) → OutIsRead o → OutPuts IsAnswered o → OutPuts DownFits o
out_both (Put k i) h a = (h, a)
out_both (Shut k) h a = tt
out_both (Took from to origin) h a = tt

outs_both : (outs : List (Out ItemOut)) → AllByRecursion OutIsRead outs → AllByRecursion (OutPuts IsAnswered) outs → AllByRecursion (OutPuts DownFits) outs
outs_both [] h a = tt
outs_both (o ∷ outs) h a = (out_both o h.0 a.0, outs_both outs h.1 a.1)

-- ---- the server

begun_keeps : (h : ServerState ItemOut) → ServerKeeps h → StepKeeps (step_of h)
begun_keeps h keeps = record { server_state = keeps; outs = tt }

item_keeps : (k : ℕ) (i : ItemOut) (h : ServerState ItemOut) → ServerFits h → UpFits i → StepKeeps (after_item itself k (read_of i) (step_of h))
item_keeps k i h keeps fits = after_kept k (read_of i) (step_of h) (up_comes i fits.0) (begun_keeps h keeps.0)

-- ---- what a client puts in order has a footer at the end alone

nothing_after : (more : List ItemOut) → MayAll stream.Ended more → more ≡ []
nothing_after [] h = refl
nothing_after (i ∷ more) h = absurd h.0

record Ends (more : List ItemOut) : Type 0 where
  front : List ItemOut
  is : more ≡ front ++ Closing ∷ []
  no_footer : AllByRecursion IsNoFooter front

abbrev Standing : List ItemOut → Type 0
Standing more = AllByRecursion IsNoFooter more

one_more : (i : ItemOut) (more : List ItemOut) → IsNoFooter i → Standing more ⊎ Ends more → Standing (i ∷ more) ⊎ Ends (i ∷ more)
one_more i more here (inl h) = inl (here, h)
one_more i more here (inr e) = inr (record { front = i ∷ e.front; is = ap (λ l. i ∷ l) e.is; no_footer = (here, e.no_footer) })

ordered : (more : List ItemOut) → MayAll stream.Between more → Standing more ⊎ Ends more
ordered [] h = inl tt
ordered (Opening x ∷ more) h = one_more (Opening x) more refl (ordered more h.1)
ordered (Whole e ∷ more) h = one_more (Whole e) more refl (ordered more h.1)
ordered (Closing ∷ more) h = inr (record { front = []; is = ap (λ l. Closing ∷ l) (nothing_after more h.1); no_footer = tt })

ended_phase : (front : List ItemOut) (p : Phase) → phase_after p (front ++ Closing ∷ []) ≡ stream.Ended
ended_phase [] p = refl
ended_phase (i ∷ front) p = ended_phase front (phase_behind i)

not_ended : (more : List ItemOut) → Ends more → phase_after stream.Between more ≡ stream.Between → ⊥
not_ended more e is = cc (sym (ended_phase e.front stream.Between) ∙ ap (phase_after stream.Between) (sym e.is) ∙ is)

stands : (more : List ItemOut) → Standing more ⊎ Ends more → phase_after stream.Between more ≡ stream.Between → Standing more
stands more (inl h) is = h
stands more (inr e) is = absurd (not_ended more e is)

in_client_step : (apart : Bool) (more : List ItemOut) → MayAll stream.Between more → (apart ≡ false → phase_after stream.Between more ≡ stream.Between) → IsInClientStep apart more
in_client_step false more may between = inl (stands more (ordered more may) (between refl))
in_client_step true more may between = by (ordered more may)
  where
    by : Standing more ⊎ Ends more → IsInClientStep true more
    by (inl h) = inl h
    by (inr e) = inr (e.front, e.is, e.no_footer, refl)

-- where no connection stood nothing is put
no_footer : (apart : Bool) (more : List ItemOut) → (apart ≡ true → more ≡ []) → (apart ≡ false → phase_after stream.Between more ≡ stream.Between) → MayAll stream.Between more → Standing more
no_footer true more silent between may = subst Standing (sym (silent refl)) tt
no_footer false more silent between may = stands more (ordered more may) (between refl)

-- ---- turns of a client

begun_within : (c : ClientView ItemOut) → ClientFits c → IsClientStepWithin (silent_client_step c)
begun_within c h = record { client = h.within; put = tt }

client_step_puts : (t : ClientStep ItemOut ItemOut) → IsClientStepWithin t → ClientStepIsRelayable t → AllByRecursion UpFits t.out.put
client_step_puts t h relayable = both (OutFits server_limits) IsRelayable t.out.put h.put relayable.put

client_step_client : (t : ClientStep ItemOut ItemOut) → IsClientStepWithin t → HasNoEnd t.client.session → ClientStepIsRelayable t → ClientFits t.client
client_step_client t h no_end relayable = record { within = h.client; no_end = no_end; relayable = relayable.client }

pub submits_phase : (t : ClientStep ItemOut ItemOut) (o : Option (SessionView ItemOut)) (i : ItemOut) (said : Said) → (submits in_items t o i said).client.phase ≡ t.client.phase
submits_phase t None i said = refl
submits_phase t (Some s) i said = refl

says_phase : (t : ClientStep ItemOut ItemOut) (to text : List ℕ) (private : Bool) → (says in_items t to text private).client.phase ≡ t.client.phase
says_phase t to text private = submits_phase t t.client.session (in_items.say (submission_of t.client to text private)) (said_of t.client.epoch t.client.n to text private)

pub catches_phase_in : (t : ClientStep ItemOut ItemOut) (o : Option (SessionView ItemOut)) (most : ℕ) → (catches_up_in in_items t o most).client.phase ≡ t.client.phase
catches_phase_in t None most = refl
catches_phase_in t (Some s) most = refl

-- a turn that leaves the phase
asked_fits : (c : ClientView ItemOut) (u : ClientStep ItemOut ItemOut) → IsClientStepWithin u → PutsInOrder (silent_client_step c) u → u.client.phase ≡ c.phase → ClientStepIsRelayable u → ClientStepFits UpFits ClientFits u
asked_fits c u h order same relayable = record {
  client = client_step_client u h order.queue relayable;
  puts = client_step_puts u h relayable;
  no_footer = subst Standing (sym order.put) (no_footer (is_apart c.phase) order.more order.silent (λ e. order.stands (ap is_apart same ∙ e)) order.may);
}

heard_fits : (c : ClientView ItemOut) (u : ClientStep ItemOut ItemOut) → IsClientStepWithin u → PutsInOrder (silent_client_step c) u → ClientStepIsRelayable u → HeardFits UpFits ClientFits u
heard_fits c u h order relayable = record {
  client = client_step_client u h order.queue relayable;
  puts = client_step_puts u h relayable;
  in_client_step = subst (IsInClientStep (is_apart u.client.phase)) (sym order.put) (in_client_step (is_apart u.client.phase) order.more order.may order.stands);
}

-- ---- both

pub cores_keep : ServerAnswers → ClientIsRelayable → CoresKeep UpFits DownFits ServerFits ClientFits
cores_keep server client = record {
  up_limits = λ i h. h.0;
  down_limits = λ i h. h.0;
  footer = (tt, tt);
  moment = λ now h keeps. (moment_kept now h keeps.0, moment_answers now h keeps.1);
  comes = λ k h keeps. (fresh_kept k (server_entropy k) h (drawn k) keeps.0, keeps.1);
  goes = λ k h keeps. (gone_kept k h keeps.0, gone_answers k h keeps.1);
  handles = λ k i h keeps fits. ((item_keeps k i h keeps fits).server_state, server.handles k i h keeps fits);
  puts = λ k i h keeps fits. outs_both (after_item itself k (read_of i) (step_of h)).outs (item_keeps k i h keeps fits).outs (server.answers k i h keeps fits);
  client = record {
    dials_so = λ k c h.
        let u = (dials in_items (client_entropy k) (fed_of c)).turn in
        let order = dials_ordered (fed_of c) (client_entropy k) h.no_end in
        let within = dials_within (fed_of c) (client_entropy k) (begun_within c h) in
        let relayable = client.dials_so k c h in
        record { client = client_step_client u within order.queue relayable; puts = client_step_puts u within relayable; no_footer = subst Standing (sym order.put) (refl, tt) };
    loses = λ c h. record { within = (leaves_within (fed_of c) (begun_within c h)).client; no_end = h.no_end; relayable = record { name = h.relayable.name; queue = h.relayable.queue } };
    forgets_so = λ c h.
        let within = forgets_within (fed_of c) (begun_within c h) in
        record { within = within.client; no_end = tt; relayable = record { name = h.relayable.name; queue = tt } };
    hears = λ i c h fits.
        heard_fits c (item_step in_items (silent_client_step c) (read_of i)) (items_within (read_of i ∷ []) (silent_client_step c) (fits.1, tt) (begun_within c h)) (items_ordered (read_of i ∷ []) (silent_client_step c) h.no_end) (client.hears i c h fits);
    says_so = λ name text private n c h named plain ok.
        asked_fits c (says in_items (silent_client_step c) (bare_address name) text private)
        (says_within (silent_client_step c) (bare_address name) text private (address_within name named) (text_within text plain) (begun_within c h))
        (says_ordered (silent_client_step c) (bare_address name) text private h.no_end) (says_phase (silent_client_step c) (bare_address name) text private) (client.says_so (bare_address name) text private c h);
    catches_up_so = λ most c h some few ok.
        asked_fits c (catches_up in_items (silent_client_step c) most) (catches_up_within (silent_client_step c) most (omega (arith, few)) (begun_within c h)) (catches_up_ordered (silent_client_step c) most h.no_end)
        (catches_phase_in (silent_client_step c) c.session most) (client.catches_up_so most c h);
  };
}
