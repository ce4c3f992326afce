-- The row of a submission: it is carried to an account that has the name, or comes back.
use Rattle.std.proofs.Common.{◌≡◌, ℕ, ◌<◌, true, false, List, [], ◌∷◌, ◌++◌, Option, Some, None, IfSome, is_some, ◌⊎◌, length, refl, sym, ap, ap₂, subst, ◌∙◌, arith, inl, inr}
use Rattle.std.proofs.lemmas.Bool.Decides.{nat_tests}
use Rattle.std.specs.List.{slice_get}
use Rattle.srv_state.specs.State.{ServerState, archive_at}
use Rattle.srv_state.specs.Steps.{Act, Send}
use Rattle.base_io.proofs.NamePositions.{is_some-position_of, stands_there}
use Rattle.base_io.specs.Names.{is_among, position_of}
use Rattle.sim_5_moves.proofs.AnswersMessages.{archs, as_sent, carries, comes_back, route, unserved}
use Rattle.sim_5_moves.specs.Heard.{HasRoom, IsSubmission, address_in}
use Rattle.sim_5_moves.specs.Sent as answers
use Rattle.sim_5_moves.specs.Sent.{as_it_is, does_on}
use Rattle.sim_3_items.specs.Meant.{submitted}
use Rattle.im_jid.specs.Cuts.{resource_of}
use Rattle.sm_live.specs.Sessions.{Session, told}
use Rattle.srv_login.specs.Accounts.{names_of}
use Rattle.srv_handlers.specs.Messages.{carrying, is_full_at}
use Rattle.sim_5_moves.proofs.Addresses.{no_resource, normal_to}
use Rattle.sim_5_moves.proofs.Positions.{names_are}
use Rattle.sim_5_moves.specs.Done.{acts_on}
use Rattle.sim_5_moves.specs.Submits.{Submits}
use Rattle.sm_outbox.specs.Submissions.{origin_of}
use Rattle.im_replies.specs.Requests.{bounce_item}
use Rattle.cmd_schedule.specs.Contents.{Owned}
use Rattle.sim_1_applications.specs.Devices.{Take}
use Rattle.sim_1_applications.specs.Stanzas.{Submission}
use Rattle.sim_1_applications.proofs.Rendered.{history_few}
use Rattle.sim_4_links_follow.specs.Given as given
use Rattle.xml_trees.specs.Trees.{Elem}
use Rattle.xml_writer.specs.Items.{ItemOut}

-- ---- what goes to a number, said twice

same_sent : (n : ℕ) (a : Act ItemOut) → given.sent_to n a ≡ answers.sent_to n a
same_sent n (Send k z) = refl
same_sent n a = refl

pub same_sends : (n : ℕ) (acts : List (Act ItemOut)) → given.sends_to n acts ≡ answers.sends_to n acts
same_sends n [] = refl
same_sends n (a ∷ acts) = ap₂ (λ xs ys. xs ++ ys) (same_sent n a) (same_sends n acts)

module _ {keep : ℕ} {owned : List Owned} {names : List (List ℕ)} {takes : List Take} {h : ServerState ItemOut} {i : ℕ} {o : Owned} {s : Session ItemOut} {m : Submission} {e : Elem} (x : Submits keep owned names takes h i o s m e) where
  submission : IsSubmission o.device m h e
  submission = record {
    item = ap (λ d. submitted o.device d m) x.runs.configured.domain ∙ x.element;
    name = x.said.named;
    normal = normal_to x;
    bare = subst (λ d. resource_of (m.to ++ 64 ∷ d) ≡ None) (sym x.runs.configured.domain) (no_resource m.to x.said.named);
  }

  -- archives have room
  not_full : (position : ℕ) (name : List ℕ) → slice_get names position ≡ Some name → is_full_at (archive_at position h) ≡ false
  not_full position name at =
      let few = history_few owned takes name in
      let below = x.few in
      ap is_full_at (x.runs.archives position name at) ∙ grind (arith, nat_tests)

  room : (account : ℕ) → slice_get names account ≡ Some m.to → HasRoom (told s) account h
  room account at = record { senders = not_full s.shown.account o.account x.session.account; recipients = not_full account m.to at }

  pub row_carries : (account : ℕ) → slice_get names account ≡ Some m.to → position_of m.to (names_of h.accounts) ≡ Some account →
      acts_on s h e ≡ carrying as_it_is (as_sent o.device m (told s) h account) (archs o.device m (told s) h account) (route o.device m (told s) h account) h
  row_carries account at position = carries o.device m (told s) h account e submission position (room account at)

  -- what comes back
  abbrev pub bounce : ItemOut
  bounce = bounce_item (address_in m h) (origin_of o.device m.epoch m.n) unserved

  pub row_refuses : is_among m.to names ≡ false → acts_on s h e ≡ Send s.shown.number bounce ∷ []
  row_refuses nobody = comes_back o.device m (told s) h e submission (ap (is_among m.to) (names_are names h x.runs.configured) ∙ nobody)

  -- either of these

  pub record IsKnown (account : ℕ) : Type 0 where
    pub at : slice_get names account ≡ Some m.to
    pub position : position_of m.to (names_of h.accounts) ≡ Some account
    pub known : is_among m.to names ≡ true

  pub known_or_not : ((account : ℕ) × IsKnown account) ⊎ (is_among m.to names ≡ false)
  known_or_not = go (position_of m.to names) refl
    where
      go : (found : Option ℕ) → position_of m.to names ≡ found → ((account : ℕ) × IsKnown account) ⊎ (is_among m.to names ≡ false)
      go None is = inr (sym (is_some-position_of m.to names) ∙ ap is_some is)
      go (Some account) is = inl (
        account,
        record {
          at = (subst (λ (q : Option ℕ). IfSome q (λ n. (n < length names) × (slice_get names n ≡ Some m.to))) is (stands_there m.to names)).1;
          position = ap (position_of m.to) (names_are names h x.runs.configured) ∙ is;
          known = sym (is_some-position_of m.to names) ∙ ap is_some is;
        },
      )
