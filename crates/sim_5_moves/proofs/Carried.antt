-- What a message that is carried sends to one session.
use Rattle.std.proofs.Common.{◌≡◌, ℕ, Bool, true, false, List, [], ◌∷◌, ◌++◌, Option, Some, None, refl, sym, ap, ◌∙◌, append_assoc, inl, inr}
use Rattle.std.proofs.lemmas.Bool.{cases_Bool, eqb-true}
use Rattle.std.specs.Prelude.{nat_eq}
use Rattle.mam_archive.specs.Entries.{EntryView}
use Rattle.srv_state.specs.State.{ServerState, bare_address, session_address}
use Rattle.srv_state.specs.Steps.{Act}
use Rattle.im_forwarding.specs.Copies.{copy_item}
use Rattle.im_forwarding.specs.Passed.{passed_item}
use Rattle.sim_5_moves.proofs.HearingSums.{where_so}
use Rattle.sim_5_moves.proofs.Picks.{picks}
use Rattle.sim_5_moves.specs.Sent.{as_it_is, sends_to}
use Rattle.sm_live.specs.Sessions.{info_of}
use Rattle.sm_live.specs.declared.told.SessionInfo.{SessionInfo}
use Rattle.srv_handlers.specs.Messages.{archiving, carrying, copy_for, copying, copying_to, delivering, delivering_to, number_in, telling}
use Rattle.im_messages.specs.Entries.{entry_of}
use Rattle.srv_route.specs.Routes.{RouteOf}
use Rattle.im_stanza.specs.Views.{MessageView}
use Rattle.xml_writer.specs.Items.{ItemOut}

-- ---- archives and what is told send nothing

archiving_silent : (n : ℕ) (e : EntryView) (accounts : List ℕ) (more : List (Act ItemOut)) → sends_to n (archiving e accounts more) ≡ sends_to n more
archiving_silent n e [] more = refl
archiving_silent n e (account ∷ accounts) more = archiving_silent n e accounts more

telling_silent : (n : ℕ) (m : MessageView) (accounts : List ℕ) (more : List (Act ItemOut)) → sends_to n (telling m accounts more) ≡ sends_to n more
telling_silent n m [] more = refl
telling_silent n m (account ∷ accounts) more = refl

-- ---- what goes to numbers

-- to which it goes is the number
same_there : (f : ℕ → List ItemOut) (k n : ℕ) → where_so (nat_eq k n) (f k) ≡ where_so (nat_eq k n) (f n)
same_there f k n = elim (cases_Bool (nat_eq k n)) [
  | inl same ↦ ap (λ j. where_so (nat_eq k n) (f j)) (eqb-true k n same)
  | inr other ↦ rw other refl
]

empty_where : (b : Bool) → where_so {X = ItemOut} b [] ≡ []
empty_where true = refl
empty_where false = refl

module _ (m : MessageView) (accounts : List ℕ) (h : ServerState ItemOut) where
  abbrev pub delivered_to : Option SessionInfo → List ItemOut
  delivered_to None = []
  delivered_to (Some t) = passed_item (bare_address t.account h) (number_in t.account accounts h) m ∷ []

  abbrev pub delivered : ℕ → List ItemOut
  delivered k = delivered_to (info_of k h.sessions)

  abbrev pub copied_to : Bool → ℕ → Option SessionInfo → List ItemOut
  copied_to sent k None = []
  copied_to sent k (Some t) = copy_item (copy_for sent m accounts t.account h) (session_address k h) ∷ []

  abbrev pub copied : Bool → ℕ → List ItemOut
  copied sent k = copied_to sent k (info_of k h.sessions)

  module _ (n : ℕ) where
    one_delivered : (k : ℕ) (o : Option SessionInfo) (more : List (Act ItemOut)) → sends_to n (delivering_to as_it_is m accounts k o h more) ≡ where_so (nat_eq k n) (delivered_to o) ++ sends_to n more
    one_delivered k None more = ap (λ zs. zs ++ sends_to n more) (sym (empty_where (nat_eq k n)))
    one_delivered k (Some t) more = refl

    all_delivered : (ks : List ℕ) (more : List (Act ItemOut)) → sends_to n (delivering as_it_is m accounts ks h more) ≡ picks (delivered n) n ks ++ sends_to n more
    all_delivered [] more = refl
    all_delivered (k ∷ ks) more =
        one_delivered k (info_of k h.sessions) (delivering as_it_is m accounts ks h more) ∙ (λ i. same_there delivered k n i ++ all_delivered ks more i)
        ∙ sym (append_assoc (where_so (nat_eq k n) (delivered n)) (picks (delivered n) n ks) (sends_to n more))

    one_copied : (sent : Bool) (k : ℕ) (o : Option SessionInfo) (more : List (Act ItemOut)) → sends_to n (copying_to as_it_is sent m accounts k o h more) ≡ where_so (nat_eq k n) (copied_to sent k o) ++ sends_to n more
    one_copied sent k None more = ap (λ zs. zs ++ sends_to n more) (sym (empty_where (nat_eq k n)))
    one_copied sent k (Some t) more = refl

    all_copied : (sent : Bool) (ks : List ℕ) (more : List (Act ItemOut)) → sends_to n (copying as_it_is sent m accounts ks h more) ≡ picks (copied sent n) n ks ++ sends_to n more
    all_copied sent [] more = refl
    all_copied sent (k ∷ ks) more =
        one_copied sent k (info_of k h.sessions) (copying as_it_is sent m accounts ks h more) ∙ (λ i. same_there (copied sent) k n i ++ all_copied sent ks more i)
        ∙ sym (append_assoc (where_so (nat_eq k n) (copied sent n)) (picks (copied sent n) n ks) (sends_to n more))

    -- ---- what the message sends

    pub carried : (r : RouteOf ℕ) → sends_to n (carrying as_it_is m accounts r h)
        ≡ picks (delivered n) n r.deliver ++ (picks (copied true n) n r.sent ++ (picks (copied false n) n r.received ++ []))
    carried r =
        let received = copying as_it_is false m accounts r.received h [] in
        let sent = copying as_it_is true m accounts r.sent h received in
        let deliver = delivering as_it_is m accounts r.deliver h sent in
        archiving_silent n (entry_of 0 h.moment m) accounts (telling m accounts deliver) ∙ telling_silent n m accounts deliver ∙ all_delivered r.deliver sent
        ∙ ap (λ zs. picks (delivered n) n r.deliver ++ zs) (all_copied true r.sent received ∙ ap (λ zs. picks (copied true n) n r.sent ++ zs) (all_copied false r.received []))
