-- The row on a resumption (XEP-0198, section 5) of a session that the server doesn't have: it says so.
use Rattle.std.proofs.Common.{◌≡◌, ℕ, true, List, [], ◌∷◌, Some, None, refl, sym, ap, subst, ◌∙◌, arith}
use Rattle.std.proofs.Math.Nat.{mod-lt}
use Rattle.std.proofs.lemmas.List.Elements.{All-nil}
use Rattle.std.proofs.lemmas.Option.{same_Some}
use Rattle.std.specs.List.{Contains}
use Rattle.std.specs.Option.{option_map}
use Rattle.srv_state.specs.State.{ServerState}
use Rattle.srv_state.specs.Steps.{acted}
use Rattle.srv_state.specs.Streams.{standing_of}
use Rattle.srv_state.specs.declared.connection.Phase.TheVariants as phase
use Rattle.srv_state.specs.declared.connection.Standing.{Standing}
use Rattle.srv_state.specs.declared.connection.Tries.TheVariants as tries
use Rattle.srv_state.specs.declared.word.Word.TheVariants as word
use Rattle.sim_3_items.specs.Counted.{IsForClient}
use Rattle.sim_3_items.specs.Identities.{Identity, Login}
use Rattle.sim_3_items.specs.WordItems.{told_count, up_item}
use Rattle.im_extensions.specs.StreamManagement.{resume_elem}
use Rattle.xml_framer.specs.declared.items.Item.TheVariants as item
use Rattle.sim_3_items.specs.ItemMoves.{step_of}
use Rattle.sim_3_items.specs.ItemPipes.{ItemWire}
use Rattle.sim_3_items.specs.ItemWorlds.{itself}
use Rattle.sim_2_links.proofs.Expected.{expected_up}
use Rattle.sim_2_links.proofs.Resumption.{asks}
use Rattle.sim_2_links.specs.Links.{IsAsked, LinkKept}
use Rattle.sim_2_links.specs.Machine.{TakesStrangeResume}
use Rattle.sim_2_links.specs.Views.{Row, Table, View, on_phase, with_at}
use Rattle.sim_2_links.specs.Views as links
use Rattle.sim_2_links.specs.Words.{DownWord, Failed, Ready, ResumeAt}
use Rattle.sm_live.specs.Sessions.{is_named, is_resumed_by, resume_answer, session_at, session_resumed, told}
use Rattle.im_replies.specs.Management.{refused_item}
use Rattle.sm_resumption.specs.Previds.{previd_of}
use Rattle.sim_4_links_follow.proofs.HandMoves.{kept_here, row_here}
use Rattle.sim_4_links_follow.proofs.Leavings.{unseated}
use Rattle.sim_4_links_follow.proofs.ReadWords.{resume_is_word}
use Rattle.sim_3_images.proofs.RuleKept.{found_is, found_some, named_as}
use Rattle.sim_4_links_follow.proofs.ResumeReads.{resumed_by}
use Rattle.sim_4_links_follow.proofs.Standing.{whole_first}
use Rattle.sim_4_links_follow.proofs.Sessions.{taken, taken_client, taken_pipes}
use Rattle.sim_4_links_follow.specs.Taking.{IsFirst, IsTaken, StepFollows, on_item}
use Rattle.srv_handlers.specs.Resumptions.{at_resume, resent_where, resuming}
use Rattle.im_stanza.specs.declared.conditions.Condition.TheVariants.{ItemNotFound}
use Rattle.srv_core.specs.Ready.{at_ready_or_bound}
use Rattle.sim_4_links_follow.proofs.Emitted.{puts_at}
use Rattle.sim_4_links_follow.proofs.Servings.{known_same, live_of, row_represents}
use Rattle.xml_writer.specs.Items.{ItemOut}

-- what the word for a resumption tells of the sessions: it was stated by a client that read that it is counted
pub record Asked (v : View ItemOut) (q n : ℕ) : Type 0 where
  pub session : links.Session ItemOut
  pub there : v.sessions q ≡ Some session
  pub read : session.read ≡ true
  pub stated : Contains session.down.stated n

module _ (who : Identity) (logins : ℕ → Login) (h : ServerState ItemOut) (wires : Table ItemWire) (v : View ItemOut) (k q n : ℕ) (p : IsFirst who logins h wires v k (ResumeAt q n)) where
  abbrev kept : LinkKept v
  kept = kept_here who logins h wires v k (ResumeAt q n) p

  pub ready : p.conn.phase ≡ Ready
  ready = expected_up v k p.conn (ResumeAt q n) p.rest kept p.is p.first

  pub none_here : session_at k h.sessions ≡ None
  none_here = unseated who logins h v kept p.server k p.conn p.is (ap (λ at. on_phase at p.conn.ending p.conn.gone) ready)

  pub asked_here : Asked v q n
  asked_here =
      let conn = kept.conns k p.conn p.is in
      let whole = whole_first p.conn.wires (ResumeAt q n) p.rest p.first in
      let stage = asks conn.stage p.conn.footed q n whole.0 (sym conn.at.up ∙ whole.1) in
      let asked = subst (IsAsked v.sessions) stage.is conn.asked in
      record { session = asked.0; there = asked.1; read = asked.2; stated = asked.3 }

  abbrev standing : Standing
  standing = standing_of (record { entropy = (logins k).yours; phase = phase.Ready who.account; tries = tries.Three })

  pub resume_step : on_item k (up_item who (logins k) (ResumeAt q n)) h ≡ acted itself (at_resume itself k who.account (previd_of q) (told_count n) h) (step_of h)
  resume_step =
      row_here who logins h wires v k (ResumeAt q n) p Ready (item.Element (resume_elem (record { previd = previd_of q; h = told_count n }))) ready
      ∙ ap (λ w. acted itself (at_ready_or_bound itself k who.account w (option_map told (session_at k h.sessions)) standing h) (step_of h)) (resume_is_word (previd_of q) (told_count n) (mod-lt n (omega arith)))
      ∙ ap (λ o. acted itself (at_ready_or_bound itself k who.account (word.Resume (previd_of q) (told_count n)) (option_map told o) standing h) (step_of h)) none_here

  abbrev IsTakenSo : Type 0
  IsTakenSo = IsTaken who logins h wires v k p.wire (ResumeAt q n)

  module _ (strange : session_resumed (previd_of q) who.account h.sessions ≡ None) where
    -- the device has no live session with the number
    no_row : (row : Row ItemOut) → v.row ≡ Some row → row.number ≡ q → ⊥
    no_row row is number =
        let live = live_of who logins h v row p.server is in
        let known = kept.row row is in
        let old = asked_here in
        let same : known.session ≡ old.session = same_Some known.session old.session (sym known.is ∙ ap v.sessions number ∙ old.there) in
        let counted : old.session.counted ≡ true = (kept.sessions q old.session old.there).read old.read in
        let can : live.session.shown.resumable ≡ true = live.row.resumable ∙ known.counted ∙ ap (λ (t : links.Session ItemOut). t.counted) same ∙ counted in
        let name = named_as who.account who.resource live.session (found_is (is_named who.account who.resource) h.sessions live.session live.named) in
        let fits = resumed_by q who.account live.session (live.row.number ∙ number) name.0 can in
        let found = found_some (is_named who.account who.resource) (is_resumed_by (previd_of q) who.account) h.sessions live.session live.named fits in
        let some = found.1 in
        let no_way : ⊥ = cc in no_way

    strange_step : on_item k (up_item who (logins k) (ResumeAt q n)) h ≡ record { server_state = h; outs = puts_at k (refused_item ItemNotFound ∷ []) }
    strange_step =
        resume_step
        ∙ ap (λ o. acted itself (resuming itself k who.account (previd_of q) (told_count n) (resume_answer (told_count n) o) (resent_where (told_count n) o)) (step_of h)) strange

    pub strange_follows : IsTakenSo
    strange_follows =
        let puts : List (DownWord ItemOut) = Failed ∷ [] in
        let d = taken who logins h wires v k (ResumeAt q n) p p.conn.phase puts in
        let next : View ItemOut = record v { conns = with_at k d v.conns } in
        subst (λ t. StepFollows who logins wires v k p.wire t []) (sym strange_step) (record {
          moves = TakesStrangeResume k ∷ [];
          next = next;
          leads = (next, record { conn = p.conn; is = p.is; p = q; h = n; rest = p.rest; first = p.first; no_row = no_row; gives = refl }, refl);
          does = refl;
          server = row_represents who logins h v p.server k p.conn p.is d v.row v.sessions (known_same v) refl p.server.row;
          pipes = taken_pipes who logins h wires v k (ResumeAt q n) p p.conn.phase puts (refused_item ItemNotFound ∷ []) next (λ j. refl) refl (All-nil IsForClient);
          client = taken_client who logins h wires v k (ResumeAt q n) p p.conn.phase puts next refl refl refl refl;
        })
