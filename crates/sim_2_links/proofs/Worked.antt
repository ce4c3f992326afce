-- Worked runs, by computation: a session is bound, cut, resumed, and lost to a late resumption.
use Rattle.std.proofs.Common.{◌≡◌, ℕ, true, false, ◌&&◌, if◌then◌else◌, [], ◌∷◌, ◌++◌, length, drop, refl, arith, None, Some}
use Rattle.sm_acks.specs.Delivery.{beginning}
use Rattle.sim_2_links.specs.Words.{St, Req, up_stanzas, Hdr, Auth, Resp, ResumeAt, Bind, Enable, Up, Head, Feat, Chal, Succ, Resumed, Bound, Enabled, Err, End, Conflict, InHeader1, InFeatures1, InAuth, InResponse, InHeader2, InFeatures2, InResume, InBind, InEnable, InOnline, Start, Sasl, Challenge, Restart, Ready, AtSession}
use Rattle.sim_2_links.specs.Wires.{Flow, Stop}
use Rattle.sim_2_links.specs.Stages.{Stands, Errs}
use Rattle.sim_2_links.specs.Views.{with_at, alter, has, View, carries}
use Rattle.sim_2_links.specs.LinkMoves.{ways_cut, IsCut, IsLetGo, IsDialled, IsUpHand, IsDownHand, handled_if, IsUpStanza, told_if}
use Rattle.sim_2_links.specs.SessionMoves.{IsAskResume, IsAskBind, lost_if, IsDetached, unread, IsBound, IsReadBound, IsEnabled, IsReadEnabled, put_if, IsClientPut, resumed_if, IsResumedHere, IsResumedLate, IsReadResumed}
use Rattle.sim_2_links.specs.Machine.{Cuts, Dials, LetsGo, Puts, ReadsHand, AsksToResume, AsksToBind, ReadsResumed, ReadsBound, ReadsEnabled, TakesHand, TakesResume, TakesLateResume, TakesBind, TakesEnable, TakesStanza, Detaches, nothing_yet, LinkReached}

-- a plain dial to Online, and a first stanza
abbrev pub plain-0 : View ℕ
plain-0 = nothing_yet

abbrev pub plain-1 : View ℕ
plain-1 = record plain-0 { here = Some 1; conns = with_at 1 (record { client = InHeader1; phase = Start; wires = Flow (Hdr ∷ []) ([]); ending = Stands; footed = false; gone = false }) plain-0.conns }

pub plain-1-is : IsDialled 1 plain-0 plain-1
plain-1-is = record { idle = refl; fresh = refl; gives = refl }

abbrev pub plain-2 : View ℕ
plain-2 = record plain-1 { conns = with_at 1 (record { client = InHeader1; phase = Sasl; wires = Flow ([]) (Head ∷ Feat ∷ []); ending = Stands; footed = false; gone = false }) plain-1.conns }

pub plain-2-is : IsUpHand 1 plain-1 plain-2
plain-2-is = record { conn = record { client = InHeader1; phase = Start; wires = Flow (Hdr ∷ []) ([]); ending = Stands; footed = false; gone = false }; is = refl; word = Hdr; rest = []; first = refl; phase = Sasl; puts = Head ∷ Feat ∷ []; hand = refl; gives = refl }

abbrev pub plain-3 : View ℕ
plain-3 = record plain-2 { conns = with_at 1 (record { client = InFeatures1; phase = Sasl; wires = Flow ([]) (Feat ∷ []); ending = Stands; footed = false; gone = false }) plain-2.conns }

pub plain-3-is : IsDownHand 1 plain-2 plain-3
plain-3-is = record { conn = record { client = InHeader1; phase = Sasl; wires = Flow ([]) (Head ∷ Feat ∷ []); ending = Stands; footed = false; gone = false }; is = refl; here = refl; word = Head; rest = Feat ∷ []; first = refl; early = tt; client = InFeatures1; puts = []; hand = refl; gives = refl }

abbrev pub plain-4 : View ℕ
plain-4 = record plain-3 { conns = with_at 1 (record { client = InAuth; phase = Sasl; wires = Flow (Auth ∷ []) ([]); ending = Stands; footed = false; gone = false }) plain-3.conns }

pub plain-4-is : IsDownHand 1 plain-3 plain-4
plain-4-is = record { conn = record { client = InFeatures1; phase = Sasl; wires = Flow ([]) (Feat ∷ []); ending = Stands; footed = false; gone = false }; is = refl; here = refl; word = Feat; rest = []; first = refl; early = tt; client = InAuth; puts = Auth ∷ []; hand = refl; gives = refl }

abbrev pub plain-5 : View ℕ
plain-5 = record plain-4 { conns = with_at 1 (record { client = InAuth; phase = Challenge; wires = Flow ([]) (Chal ∷ []); ending = Stands; footed = false; gone = false }) plain-4.conns }

pub plain-5-is : IsUpHand 1 plain-4 plain-5
plain-5-is = record { conn = record { client = InAuth; phase = Sasl; wires = Flow (Auth ∷ []) ([]); ending = Stands; footed = false; gone = false }; is = refl; word = Auth; rest = []; first = refl; phase = Challenge; puts = Chal ∷ []; hand = refl; gives = refl }

abbrev pub plain-6 : View ℕ
plain-6 = record plain-5 { conns = with_at 1 (record { client = InResponse; phase = Challenge; wires = Flow (Resp ∷ []) ([]); ending = Stands; footed = false; gone = false }) plain-5.conns }

pub plain-6-is : IsDownHand 1 plain-5 plain-6
plain-6-is = record { conn = record { client = InAuth; phase = Challenge; wires = Flow ([]) (Chal ∷ []); ending = Stands; footed = false; gone = false }; is = refl; here = refl; word = Chal; rest = []; first = refl; early = tt; client = InResponse; puts = Resp ∷ []; hand = refl; gives = refl }

abbrev pub plain-7 : View ℕ
plain-7 = record plain-6 { conns = with_at 1 (record { client = InResponse; phase = Restart; wires = Flow ([]) (Succ ∷ []); ending = Stands; footed = false; gone = false }) plain-6.conns }

pub plain-7-is : IsUpHand 1 plain-6 plain-7
plain-7-is = record { conn = record { client = InResponse; phase = Challenge; wires = Flow (Resp ∷ []) ([]); ending = Stands; footed = false; gone = false }; is = refl; word = Resp; rest = []; first = refl; phase = Restart; puts = Succ ∷ []; hand = refl; gives = refl }

abbrev pub plain-8 : View ℕ
plain-8 = record plain-7 { conns = with_at 1 (record { client = InHeader2; phase = Restart; wires = Flow (Hdr ∷ []) ([]); ending = Stands; footed = false; gone = false }) plain-7.conns }

pub plain-8-is : IsDownHand 1 plain-7 plain-8
plain-8-is = record { conn = record { client = InResponse; phase = Restart; wires = Flow ([]) (Succ ∷ []); ending = Stands; footed = false; gone = false }; is = refl; here = refl; word = Succ; rest = []; first = refl; early = tt; client = InHeader2; puts = Hdr ∷ []; hand = refl; gives = refl }

abbrev pub plain-9 : View ℕ
plain-9 = record plain-8 { conns = with_at 1 (record { client = InHeader2; phase = Ready; wires = Flow ([]) (Head ∷ Feat ∷ []); ending = Stands; footed = false; gone = false }) plain-8.conns }

pub plain-9-is : IsUpHand 1 plain-8 plain-9
plain-9-is = record { conn = record { client = InHeader2; phase = Restart; wires = Flow (Hdr ∷ []) ([]); ending = Stands; footed = false; gone = false }; is = refl; word = Hdr; rest = []; first = refl; phase = Ready; puts = Head ∷ Feat ∷ []; hand = refl; gives = refl }

abbrev pub plain-10 : View ℕ
plain-10 = record plain-9 { conns = with_at 1 (record { client = InFeatures2; phase = Ready; wires = Flow ([]) (Feat ∷ []); ending = Stands; footed = false; gone = false }) plain-9.conns }

pub plain-10-is : IsDownHand 1 plain-9 plain-10
plain-10-is = record { conn = record { client = InHeader2; phase = Ready; wires = Flow ([]) (Head ∷ Feat ∷ []); ending = Stands; footed = false; gone = false }; is = refl; here = refl; word = Head; rest = Feat ∷ []; first = refl; early = tt; client = InFeatures2; puts = []; hand = refl; gives = refl }

abbrev pub plain-11 : View ℕ
plain-11 = record plain-10 { conns = with_at 1 (record { client = InBind; phase = Ready; wires = Flow (Bind ∷ []) ([]); ending = Stands; footed = false; gone = false }) plain-10.conns }

pub plain-11-is : IsAskBind 1 plain-10 plain-11
plain-11-is = record { conn = record { client = InFeatures2; phase = Ready; wires = Flow ([]) (Feat ∷ []); ending = Stands; footed = false; gone = false }; is = refl; here = refl; rest = []; first = refl; client = refl; none = refl; gives = refl }

abbrev pub plain-12 : View ℕ
plain-12 = record plain-11 { conns = with_at 1 (record { client = InBind; phase = (AtSession 1); wires = Flow ([]) (Bound 1 ∷ []); ending = Stands; footed = false; gone = false }) plain-11.conns; row = Some (record { number = 1; on = Some 1; counted = false; acked = 0; handled = 0; queue = [] }); sessions = with_at 1 unread plain-11.sessions; free = 2 }

pub plain-12-is : IsBound 1 1 plain-11 plain-12
plain-12-is = record { conn = record { client = InBind; phase = Ready; wires = Flow (Bind ∷ []) ([]); ending = Stands; footed = false; gone = false }; is = refl; rest = []; first = refl; phase = refl; none = refl; fresh = refl; rises = omega arith; gives = refl }

abbrev pub plain-13 : View ℕ
plain-13 = record plain-12 { conns = with_at 1 (record { client = InEnable; phase = (AtSession 1); wires = Flow (Enable ∷ []) ([]); ending = Stands; footed = false; gone = false }) plain-12.conns; epoch = 1; sessions = alter (λ q s. record s { epoch = if has (Some 1) q then Some 1 else s.epoch }) plain-12.sessions }

pub plain-13-is : IsReadBound 1 1 plain-12 plain-13
plain-13-is = record { conn = record { client = InBind; phase = (AtSession 1); wires = Flow ([]) (Bound 1 ∷ []); ending = Stands; footed = false; gone = false }; is = refl; here = refl; rest = []; first = refl; client = refl; gives = refl }

abbrev pub plain-14 : View ℕ
plain-14 = record plain-13 { conns = with_at 1 (record { client = InEnable; phase = (AtSession 1); wires = Flow ([]) (Enabled 1 ∷ []); ending = Stands; footed = false; gone = false }) plain-13.conns; row = Some (record { number = 1; on = Some 1; counted = true; acked = 0; handled = 0; queue = [] }); sessions = alter (λ q s. record s { counted = if has (Some 1) q then true else s.counted; up = record s.up { is_open = if has (Some 1) q then true else s.up.is_open }; down = record s.down { is_open = if has (Some 1) q then true else s.down.is_open } }) plain-13.sessions }

pub plain-14-is : IsEnabled 1 plain-13 plain-14
plain-14-is = record { conn = record { client = InEnable; phase = (AtSession 1); wires = Flow (Enable ∷ []) ([]); ending = Stands; footed = false; gone = false }; is = refl; rest = []; first = refl; row = record { number = 1; on = Some 1; counted = false; acked = 0; handled = 0; queue = [] }; is_row = refl; on = refl; uncounted = refl; gives = refl }

abbrev pub plain-15 : View ℕ
plain-15 = record plain-14 { conns = with_at 1 (record { client = (InOnline 1); phase = (AtSession 1); wires = Flow ([]) ([]); ending = Stands; footed = false; gone = false }) plain-14.conns; own = Some (record { number = 1; acked = 0; handled = 0; queue = [] }); sessions = alter (λ q s. record s { read = if has (Some 1) q then true else s.read }) plain-14.sessions }

pub plain-15-is : IsReadEnabled 1 1 plain-14 plain-15
plain-15-is = record { conn = record { client = InEnable; phase = (AtSession 1); wires = Flow ([]) (Enabled 1 ∷ []); ending = Stands; footed = false; gone = false }; is = refl; here = refl; rest = []; first = refl; client = refl; gives = refl }

abbrev pub plain-16 : View ℕ
plain-16 = record plain-15 { conns = with_at 1 (record { client = (InOnline 1); phase = (AtSession 1); wires = Flow (Up (St 10) ∷ []) ([]); ending = Stands; footed = false; gone = false }) plain-15.conns; own = Some (record { number = 1; acked = 0; handled = 0; queue = 10 ∷ [] }); sessions = alter (λ q s. record s { up = put_if (has (Some 1) q) 10 s.up }) plain-15.sessions }

pub plain-16-is : IsClientPut 1 10 plain-15 plain-16
plain-16-is = record { conn = record { client = (InOnline 1); phase = (AtSession 1); wires = Flow ([]) ([]); ending = Stands; footed = false; gone = false }; is = refl; here = refl; own = record { number = 1; acked = 0; handled = 0; queue = [] }; is_own = refl; client = refl; gives = refl }

abbrev pub plain-17 : View ℕ
plain-17 = record plain-16 { conns = with_at 1 (record { client = (InOnline 1); phase = (AtSession 1); wires = Flow (Up (St 10) ∷ Up (St 11) ∷ []) ([]); ending = Stands; footed = false; gone = false }) plain-16.conns; own = Some (record { number = 1; acked = 0; handled = 0; queue = 10 ∷ 11 ∷ [] }); sessions = alter (λ q s. record s { up = put_if (has (Some 1) q) 11 s.up }) plain-16.sessions }

pub plain-17-is : IsClientPut 1 11 plain-16 plain-17
plain-17-is = record { conn = record { client = (InOnline 1); phase = (AtSession 1); wires = Flow (Up (St 10) ∷ []) ([]); ending = Stands; footed = false; gone = false }; is = refl; here = refl; own = record { number = 1; acked = 0; handled = 0; queue = 10 ∷ [] }; is_own = refl; client = refl; gives = refl }

abbrev pub plain-18 : View ℕ
plain-18 = record plain-17 { conns = with_at 1 (record { client = (InOnline 1); phase = (AtSession 1); wires = Flow (Up (St 11) ∷ []) ([]); ending = Stands; footed = false; gone = false }) plain-17.conns; row = Some (record { number = 1; on = Some 1; counted = true; acked = 0; handled = 1; queue = [] }); sessions = alter (λ q s. handled_if (has (Some 1) q) 10 (up_stanzas (Up (St 11) ∷ [])) s) plain-17.sessions }

pub plain-18-is : IsUpStanza 1 10 plain-17 plain-18
plain-18-is = record { conn = record { client = (InOnline 1); phase = (AtSession 1); wires = Flow (Up (St 10) ∷ Up (St 11) ∷ []) ([]); ending = Stands; footed = false; gone = false }; is = refl; rest = Up (St 11) ∷ []; first = refl; row = record { number = 1; on = Some 1; counted = true; acked = 0; handled = 0; queue = [] }; is_row = refl; on = refl; counted = refl; gives = refl }

-- the connection is cut with a stanza under way, and the session is resumed on the next one
abbrev pub plain-19 : View ℕ
plain-19 = record plain-18 { conns = with_at 1 (record { client = (InOnline 1); phase = (AtSession 1); wires = Stop ([]) ([]) (Up (St 11) ∷ []) ([]); ending = Stands; footed = false; gone = false }) plain-18.conns; sessions = alter (ways_cut true (record { client = (InOnline 1); phase = (AtSession 1); wires = Flow (Up (St 11) ∷ []) ([]); ending = Stands; footed = false; gone = false }) 0 0) plain-18.sessions }

pub plain-19-is : IsCut 1 0 0 plain-18 plain-19
plain-19-is = record { conn = record { client = (InOnline 1); phase = (AtSession 1); wires = Flow (Up (St 11) ∷ []) ([]); ending = Stands; footed = false; gone = false }; is = refl; gives = refl }

abbrev pub plain-20 : View ℕ
plain-20 = record plain-19 { here = None }

pub plain-20-is : IsLetGo 1 plain-19 plain-20
plain-20-is = record { conn = record { client = (InOnline 1); phase = (AtSession 1); wires = Stop ([]) ([]) (Up (St 11) ∷ []) ([]); ending = Stands; footed = false; gone = false }; here = refl; is = refl; ended = refl; empty = refl; gives = refl }

abbrev pub plain-21 : View ℕ
plain-21 = record plain-20 { here = Some 2; conns = with_at 2 (record { client = InHeader1; phase = Start; wires = Flow (Hdr ∷ []) ([]); ending = Stands; footed = false; gone = false }) plain-20.conns }

pub plain-21-is : IsDialled 2 plain-20 plain-21
plain-21-is = record { idle = refl; fresh = refl; gives = refl }

abbrev pub plain-22 : View ℕ
plain-22 = record plain-21 { conns = with_at 2 (record { client = InHeader1; phase = Sasl; wires = Flow ([]) (Head ∷ Feat ∷ []); ending = Stands; footed = false; gone = false }) plain-21.conns }

pub plain-22-is : IsUpHand 2 plain-21 plain-22
plain-22-is = record { conn = record { client = InHeader1; phase = Start; wires = Flow (Hdr ∷ []) ([]); ending = Stands; footed = false; gone = false }; is = refl; word = Hdr; rest = []; first = refl; phase = Sasl; puts = Head ∷ Feat ∷ []; hand = refl; gives = refl }

abbrev pub plain-23 : View ℕ
plain-23 = record plain-22 { conns = with_at 2 (record { client = InFeatures1; phase = Sasl; wires = Flow ([]) (Feat ∷ []); ending = Stands; footed = false; gone = false }) plain-22.conns }

pub plain-23-is : IsDownHand 2 plain-22 plain-23
plain-23-is = record { conn = record { client = InHeader1; phase = Sasl; wires = Flow ([]) (Head ∷ Feat ∷ []); ending = Stands; footed = false; gone = false }; is = refl; here = refl; word = Head; rest = Feat ∷ []; first = refl; early = tt; client = InFeatures1; puts = []; hand = refl; gives = refl }

abbrev pub plain-24 : View ℕ
plain-24 = record plain-23 { conns = with_at 2 (record { client = InAuth; phase = Sasl; wires = Flow (Auth ∷ []) ([]); ending = Stands; footed = false; gone = false }) plain-23.conns }

pub plain-24-is : IsDownHand 2 plain-23 plain-24
plain-24-is = record { conn = record { client = InFeatures1; phase = Sasl; wires = Flow ([]) (Feat ∷ []); ending = Stands; footed = false; gone = false }; is = refl; here = refl; word = Feat; rest = []; first = refl; early = tt; client = InAuth; puts = Auth ∷ []; hand = refl; gives = refl }

abbrev pub plain-25 : View ℕ
plain-25 = record plain-24 { conns = with_at 2 (record { client = InAuth; phase = Challenge; wires = Flow ([]) (Chal ∷ []); ending = Stands; footed = false; gone = false }) plain-24.conns }

pub plain-25-is : IsUpHand 2 plain-24 plain-25
plain-25-is = record { conn = record { client = InAuth; phase = Sasl; wires = Flow (Auth ∷ []) ([]); ending = Stands; footed = false; gone = false }; is = refl; word = Auth; rest = []; first = refl; phase = Challenge; puts = Chal ∷ []; hand = refl; gives = refl }

abbrev pub plain-26 : View ℕ
plain-26 = record plain-25 { conns = with_at 2 (record { client = InResponse; phase = Challenge; wires = Flow (Resp ∷ []) ([]); ending = Stands; footed = false; gone = false }) plain-25.conns }

pub plain-26-is : IsDownHand 2 plain-25 plain-26
plain-26-is = record { conn = record { client = InAuth; phase = Challenge; wires = Flow ([]) (Chal ∷ []); ending = Stands; footed = false; gone = false }; is = refl; here = refl; word = Chal; rest = []; first = refl; early = tt; client = InResponse; puts = Resp ∷ []; hand = refl; gives = refl }

abbrev pub plain-27 : View ℕ
plain-27 = record plain-26 { conns = with_at 2 (record { client = InResponse; phase = Restart; wires = Flow ([]) (Succ ∷ []); ending = Stands; footed = false; gone = false }) plain-26.conns }

pub plain-27-is : IsUpHand 2 plain-26 plain-27
plain-27-is = record { conn = record { client = InResponse; phase = Challenge; wires = Flow (Resp ∷ []) ([]); ending = Stands; footed = false; gone = false }; is = refl; word = Resp; rest = []; first = refl; phase = Restart; puts = Succ ∷ []; hand = refl; gives = refl }

abbrev pub plain-28 : View ℕ
plain-28 = record plain-27 { conns = with_at 2 (record { client = InHeader2; phase = Restart; wires = Flow (Hdr ∷ []) ([]); ending = Stands; footed = false; gone = false }) plain-27.conns }

pub plain-28-is : IsDownHand 2 plain-27 plain-28
plain-28-is = record { conn = record { client = InResponse; phase = Restart; wires = Flow ([]) (Succ ∷ []); ending = Stands; footed = false; gone = false }; is = refl; here = refl; word = Succ; rest = []; first = refl; early = tt; client = InHeader2; puts = Hdr ∷ []; hand = refl; gives = refl }

abbrev pub plain-29 : View ℕ
plain-29 = record plain-28 { conns = with_at 2 (record { client = InHeader2; phase = Ready; wires = Flow ([]) (Head ∷ Feat ∷ []); ending = Stands; footed = false; gone = false }) plain-28.conns }

pub plain-29-is : IsUpHand 2 plain-28 plain-29
plain-29-is = record { conn = record { client = InHeader2; phase = Restart; wires = Flow (Hdr ∷ []) ([]); ending = Stands; footed = false; gone = false }; is = refl; word = Hdr; rest = []; first = refl; phase = Ready; puts = Head ∷ Feat ∷ []; hand = refl; gives = refl }

abbrev pub plain-30 : View ℕ
plain-30 = record plain-29 { conns = with_at 2 (record { client = InFeatures2; phase = Ready; wires = Flow ([]) (Feat ∷ []); ending = Stands; footed = false; gone = false }) plain-29.conns }

pub plain-30-is : IsDownHand 2 plain-29 plain-30
plain-30-is = record { conn = record { client = InHeader2; phase = Ready; wires = Flow ([]) (Head ∷ Feat ∷ []); ending = Stands; footed = false; gone = false }; is = refl; here = refl; word = Head; rest = Feat ∷ []; first = refl; early = tt; client = InFeatures2; puts = []; hand = refl; gives = refl }

abbrev pub plain-31 : View ℕ
plain-31 = record plain-30 { conns = with_at 2 (record { client = (InResume 1); phase = Ready; wires = Flow (ResumeAt 1 0 ∷ []) ([]); ending = Stands; footed = false; gone = false }) plain-30.conns; sessions = alter (λ q s. told_if (has (Some 1) q) s) plain-30.sessions }

pub plain-31-is : IsAskResume 2 plain-30 plain-31
plain-31-is = record { conn = record { client = InFeatures2; phase = Ready; wires = Flow ([]) (Feat ∷ []); ending = Stands; footed = false; gone = false }; is = refl; here = refl; rest = []; first = refl; client = refl; own = record { number = 1; acked = 0; handled = 0; queue = 10 ∷ 11 ∷ [] }; is_own = refl; gives = refl }

abbrev pub plain-32 : View ℕ
plain-32 = record plain-31 { conns = with_at 1 (record { client = (InOnline 1); phase = (AtSession 1); wires = Stop ([]) ([]) (Up (St 11) ∷ []) (Err Conflict ∷ End ∷ []); ending = Errs Conflict; footed = false; gone = false }) plain-31.conns; row = Some (record { number = 1; on = None; counted = true; acked = 0; handled = 1; queue = [] }); sessions = alter (λ q s. lost_if (has (Some 1) q) (s.counted && (false && has (carries {A = ℕ} (record { client = (InOnline 1); phase = (AtSession 1); wires = Stop ([]) ([]) (Up (St 11) ∷ []) ([]); ending = Stands; footed = false; gone = false })) q)) s) plain-31.sessions }

pub plain-32-is : IsDetached 1 (Errs Conflict) plain-31 plain-32
plain-32-is = record { conn = record { client = (InOnline 1); phase = (AtSession 1); wires = Stop ([]) ([]) (Up (St 11) ∷ []) ([]); ending = Stands; footed = false; gone = false }; is = refl; row = record { number = 1; on = Some 1; counted = true; acked = 0; handled = 1; queue = [] }; is_row = refl; on = refl; counted = refl; reason = tt; gives = refl }

pub plain-32-reached : LinkReached plain-32
plain-32-reached = record { moves = Dials 1 ∷ TakesHand 1 ∷ ReadsHand 1 ∷ ReadsHand 1 ∷ TakesHand 1 ∷ ReadsHand 1 ∷ TakesHand 1 ∷ ReadsHand 1 ∷ TakesHand 1 ∷ ReadsHand 1 ∷ AsksToBind 1 ∷ TakesBind 1 1 ∷ ReadsBound 1 1 ∷ TakesEnable 1 ∷ ReadsEnabled 1 1 ∷ Puts 1 10 ∷ Puts 1 11 ∷ TakesStanza 1 10 ∷ Cuts 1 0 0 ∷ LetsGo 1 ∷ Dials 2 ∷ TakesHand 2 ∷ ReadsHand 2 ∷ ReadsHand 2 ∷ TakesHand 2 ∷ ReadsHand 2 ∷ TakesHand 2 ∷ ReadsHand 2 ∷ TakesHand 2 ∷ ReadsHand 2 ∷ AsksToResume 2 ∷ Detaches 1 (Errs Conflict) ∷ []; reaches = (plain-1, plain-1-is, (plain-2, plain-2-is, (plain-3, plain-3-is, (plain-4, plain-4-is, (plain-5, plain-5-is, (plain-6, plain-6-is, (plain-7, plain-7-is, (plain-8, plain-8-is, (plain-9, plain-9-is, (plain-10, plain-10-is, (plain-11, plain-11-is, (plain-12, plain-12-is, (plain-13, plain-13-is, (plain-14, plain-14-is, (plain-15, plain-15-is, (plain-16, plain-16-is, (plain-17, plain-17-is, (plain-18, plain-18-is, (plain-19, plain-19-is, (plain-20, plain-20-is, (plain-21, plain-21-is, (plain-22, plain-22-is, (plain-23, plain-23-is, (plain-24, plain-24-is, (plain-25, plain-25-is, (plain-26, plain-26-is, (plain-27, plain-27-is, (plain-28, plain-28-is, (plain-29, plain-29-is, (plain-30, plain-30-is, (plain-31, plain-31-is, (plain-32, plain-32-is, refl)))))))))))))))))))))))))))))))) }

abbrev pub plain-33 : View ℕ
plain-33 = record plain-32 { conns = with_at 2 (record { client = (InResume 1); phase = (AtSession 1); wires = Flow ([]) (Resumed 1 1 ∷ []); ending = Stands; footed = false; gone = false }) plain-32.conns; row = Some (record { number = 1; on = Some 2; counted = true; acked = 0; handled = 1; queue = [] }); sessions = alter (λ q s. resumed_if (has (Some 1) q) true s) plain-32.sessions }

pub plain-33-is : IsResumedHere 2 plain-32 plain-33
plain-33-is = record { conn = record { client = (InResume 1); phase = Ready; wires = Flow (ResumeAt 1 0 ∷ []) ([]); ending = Stands; footed = false; gone = false }; is = refl; rest = []; first = refl; here = refl; h = 0; row = record { number = 1; on = None; counted = true; acked = 0; handled = 1; queue = [] }; is_row = refl; off = refl; counted = refl; gives = refl }

pub plain-33-reached : LinkReached plain-33
plain-33-reached = record { moves = Dials 1 ∷ TakesHand 1 ∷ ReadsHand 1 ∷ ReadsHand 1 ∷ TakesHand 1 ∷ ReadsHand 1 ∷ TakesHand 1 ∷ ReadsHand 1 ∷ TakesHand 1 ∷ ReadsHand 1 ∷ AsksToBind 1 ∷ TakesBind 1 1 ∷ ReadsBound 1 1 ∷ TakesEnable 1 ∷ ReadsEnabled 1 1 ∷ Puts 1 10 ∷ Puts 1 11 ∷ TakesStanza 1 10 ∷ Cuts 1 0 0 ∷ LetsGo 1 ∷ Dials 2 ∷ TakesHand 2 ∷ ReadsHand 2 ∷ ReadsHand 2 ∷ TakesHand 2 ∷ ReadsHand 2 ∷ TakesHand 2 ∷ ReadsHand 2 ∷ TakesHand 2 ∷ ReadsHand 2 ∷ AsksToResume 2 ∷ Detaches 1 (Errs Conflict) ∷ TakesResume 2 ∷ []; reaches = (plain-1, plain-1-is, (plain-2, plain-2-is, (plain-3, plain-3-is, (plain-4, plain-4-is, (plain-5, plain-5-is, (plain-6, plain-6-is, (plain-7, plain-7-is, (plain-8, plain-8-is, (plain-9, plain-9-is, (plain-10, plain-10-is, (plain-11, plain-11-is, (plain-12, plain-12-is, (plain-13, plain-13-is, (plain-14, plain-14-is, (plain-15, plain-15-is, (plain-16, plain-16-is, (plain-17, plain-17-is, (plain-18, plain-18-is, (plain-19, plain-19-is, (plain-20, plain-20-is, (plain-21, plain-21-is, (plain-22, plain-22-is, (plain-23, plain-23-is, (plain-24, plain-24-is, (plain-25, plain-25-is, (plain-26, plain-26-is, (plain-27, plain-27-is, (plain-28, plain-28-is, (plain-29, plain-29-is, (plain-30, plain-30-is, (plain-31, plain-31-is, (plain-32, plain-32-is, (plain-33, plain-33-is, refl))))))))))))))))))))))))))))))))) }

abbrev pub plain-34 : View ℕ
plain-34 = record plain-33 { conns = with_at 2 (record { client = (InOnline 1); phase = (AtSession 1); wires = Flow (Up (St 11) ∷ Up Req ∷ []) ([]); ending = Stands; footed = false; gone = false }) plain-33.conns; own = Some (record { number = 1; acked = 1; handled = 0; queue = 11 ∷ [] }); sessions = alter (λ q s. record s { up = record s.up { acked = if has (Some 1) q then length s.up.got else s.up.acked; way = if has (Some 1) q then (if true then drop (length s.up.got) s.up.put else []) else s.up.way; is_open = if has (Some 1) q then true else s.up.is_open } }) plain-33.sessions }

pub plain-34-is : IsReadResumed 2 plain-33 plain-34
plain-34-is = record { conn = record { client = (InResume 1); phase = (AtSession 1); wires = Flow ([]) (Resumed 1 1 ∷ []); ending = Stands; footed = false; gone = false }; is = refl; here = refl; rest = []; first = refl; client = refl; h = 1; own = record { number = 1; acked = 0; handled = 0; queue = 10 ∷ 11 ∷ [] }; is_own = refl; gives = refl }

pub plain-34-reached : LinkReached plain-34
plain-34-reached = record { moves = Dials 1 ∷ TakesHand 1 ∷ ReadsHand 1 ∷ ReadsHand 1 ∷ TakesHand 1 ∷ ReadsHand 1 ∷ TakesHand 1 ∷ ReadsHand 1 ∷ TakesHand 1 ∷ ReadsHand 1 ∷ AsksToBind 1 ∷ TakesBind 1 1 ∷ ReadsBound 1 1 ∷ TakesEnable 1 ∷ ReadsEnabled 1 1 ∷ Puts 1 10 ∷ Puts 1 11 ∷ TakesStanza 1 10 ∷ Cuts 1 0 0 ∷ LetsGo 1 ∷ Dials 2 ∷ TakesHand 2 ∷ ReadsHand 2 ∷ ReadsHand 2 ∷ TakesHand 2 ∷ ReadsHand 2 ∷ TakesHand 2 ∷ ReadsHand 2 ∷ TakesHand 2 ∷ ReadsHand 2 ∷ AsksToResume 2 ∷ Detaches 1 (Errs Conflict) ∷ TakesResume 2 ∷ ReadsResumed 2 ∷ []; reaches = (plain-1, plain-1-is, (plain-2, plain-2-is, (plain-3, plain-3-is, (plain-4, plain-4-is, (plain-5, plain-5-is, (plain-6, plain-6-is, (plain-7, plain-7-is, (plain-8, plain-8-is, (plain-9, plain-9-is, (plain-10, plain-10-is, (plain-11, plain-11-is, (plain-12, plain-12-is, (plain-13, plain-13-is, (plain-14, plain-14-is, (plain-15, plain-15-is, (plain-16, plain-16-is, (plain-17, plain-17-is, (plain-18, plain-18-is, (plain-19, plain-19-is, (plain-20, plain-20-is, (plain-21, plain-21-is, (plain-22, plain-22-is, (plain-23, plain-23-is, (plain-24, plain-24-is, (plain-25, plain-25-is, (plain-26, plain-26-is, (plain-27, plain-27-is, (plain-28, plain-28-is, (plain-29, plain-29-is, (plain-30, plain-30-is, (plain-31, plain-31-is, (plain-32, plain-32-is, (plain-33, plain-33-is, (plain-34, plain-34-is, refl)))))))))))))))))))))))))))))))))) }

pub resumed_and_sent_again : plain-34.sessions 1 ≡ Some (record { epoch = Some 1; counted = true; read = true; up = record { put = 10 ∷ 11 ∷ []; acked = 1; got = 10 ∷ []; way = 11 ∷ []; is_open = true; stated = 1 ∷ [] }; down = record beginning { stated = 0 ∷ [] } })
resumed_and_sent_again = refl

-- the client asks to resume, and leaves; the old word is taken late, while it is online again; it is resumed again
abbrev pub plain-35 : View ℕ
plain-35 = record plain-34 { conns = with_at 2 (record { client = (InOnline 1); phase = (AtSession 1); wires = Stop ([]) ([]) (Up (St 11) ∷ Up Req ∷ []) ([]); ending = Stands; footed = false; gone = false }) plain-34.conns; sessions = alter (ways_cut true (record { client = (InOnline 1); phase = (AtSession 1); wires = Flow (Up (St 11) ∷ Up Req ∷ []) ([]); ending = Stands; footed = false; gone = false }) 0 0) plain-34.sessions }

pub plain-35-is : IsCut 2 0 0 plain-34 plain-35
plain-35-is = record { conn = record { client = (InOnline 1); phase = (AtSession 1); wires = Flow (Up (St 11) ∷ Up Req ∷ []) ([]); ending = Stands; footed = false; gone = false }; is = refl; gives = refl }

abbrev pub plain-36 : View ℕ
plain-36 = record plain-35 { here = None }

pub plain-36-is : IsLetGo 2 plain-35 plain-36
plain-36-is = record { conn = record { client = (InOnline 1); phase = (AtSession 1); wires = Stop ([]) ([]) (Up (St 11) ∷ Up Req ∷ []) ([]); ending = Stands; footed = false; gone = false }; here = refl; is = refl; ended = refl; empty = refl; gives = refl }

abbrev pub plain-37 : View ℕ
plain-37 = record plain-36 { here = Some 3; conns = with_at 3 (record { client = InHeader1; phase = Start; wires = Flow (Hdr ∷ []) ([]); ending = Stands; footed = false; gone = false }) plain-36.conns }

pub plain-37-is : IsDialled 3 plain-36 plain-37
plain-37-is = record { idle = refl; fresh = refl; gives = refl }

abbrev pub plain-38 : View ℕ
plain-38 = record plain-37 { conns = with_at 3 (record { client = InHeader1; phase = Sasl; wires = Flow ([]) (Head ∷ Feat ∷ []); ending = Stands; footed = false; gone = false }) plain-37.conns }

pub plain-38-is : IsUpHand 3 plain-37 plain-38
plain-38-is = record { conn = record { client = InHeader1; phase = Start; wires = Flow (Hdr ∷ []) ([]); ending = Stands; footed = false; gone = false }; is = refl; word = Hdr; rest = []; first = refl; phase = Sasl; puts = Head ∷ Feat ∷ []; hand = refl; gives = refl }

abbrev pub plain-39 : View ℕ
plain-39 = record plain-38 { conns = with_at 3 (record { client = InFeatures1; phase = Sasl; wires = Flow ([]) (Feat ∷ []); ending = Stands; footed = false; gone = false }) plain-38.conns }

pub plain-39-is : IsDownHand 3 plain-38 plain-39
plain-39-is = record { conn = record { client = InHeader1; phase = Sasl; wires = Flow ([]) (Head ∷ Feat ∷ []); ending = Stands; footed = false; gone = false }; is = refl; here = refl; word = Head; rest = Feat ∷ []; first = refl; early = tt; client = InFeatures1; puts = []; hand = refl; gives = refl }

abbrev pub plain-40 : View ℕ
plain-40 = record plain-39 { conns = with_at 3 (record { client = InAuth; phase = Sasl; wires = Flow (Auth ∷ []) ([]); ending = Stands; footed = false; gone = false }) plain-39.conns }

pub plain-40-is : IsDownHand 3 plain-39 plain-40
plain-40-is = record { conn = record { client = InFeatures1; phase = Sasl; wires = Flow ([]) (Feat ∷ []); ending = Stands; footed = false; gone = false }; is = refl; here = refl; word = Feat; rest = []; first = refl; early = tt; client = InAuth; puts = Auth ∷ []; hand = refl; gives = refl }

abbrev pub plain-41 : View ℕ
plain-41 = record plain-40 { conns = with_at 3 (record { client = InAuth; phase = Challenge; wires = Flow ([]) (Chal ∷ []); ending = Stands; footed = false; gone = false }) plain-40.conns }

pub plain-41-is : IsUpHand 3 plain-40 plain-41
plain-41-is = record { conn = record { client = InAuth; phase = Sasl; wires = Flow (Auth ∷ []) ([]); ending = Stands; footed = false; gone = false }; is = refl; word = Auth; rest = []; first = refl; phase = Challenge; puts = Chal ∷ []; hand = refl; gives = refl }

abbrev pub plain-42 : View ℕ
plain-42 = record plain-41 { conns = with_at 3 (record { client = InResponse; phase = Challenge; wires = Flow (Resp ∷ []) ([]); ending = Stands; footed = false; gone = false }) plain-41.conns }

pub plain-42-is : IsDownHand 3 plain-41 plain-42
plain-42-is = record { conn = record { client = InAuth; phase = Challenge; wires = Flow ([]) (Chal ∷ []); ending = Stands; footed = false; gone = false }; is = refl; here = refl; word = Chal; rest = []; first = refl; early = tt; client = InResponse; puts = Resp ∷ []; hand = refl; gives = refl }

abbrev pub plain-43 : View ℕ
plain-43 = record plain-42 { conns = with_at 3 (record { client = InResponse; phase = Restart; wires = Flow ([]) (Succ ∷ []); ending = Stands; footed = false; gone = false }) plain-42.conns }

pub plain-43-is : IsUpHand 3 plain-42 plain-43
plain-43-is = record { conn = record { client = InResponse; phase = Challenge; wires = Flow (Resp ∷ []) ([]); ending = Stands; footed = false; gone = false }; is = refl; word = Resp; rest = []; first = refl; phase = Restart; puts = Succ ∷ []; hand = refl; gives = refl }

abbrev pub plain-44 : View ℕ
plain-44 = record plain-43 { conns = with_at 3 (record { client = InHeader2; phase = Restart; wires = Flow (Hdr ∷ []) ([]); ending = Stands; footed = false; gone = false }) plain-43.conns }

pub plain-44-is : IsDownHand 3 plain-43 plain-44
plain-44-is = record { conn = record { client = InResponse; phase = Restart; wires = Flow ([]) (Succ ∷ []); ending = Stands; footed = false; gone = false }; is = refl; here = refl; word = Succ; rest = []; first = refl; early = tt; client = InHeader2; puts = Hdr ∷ []; hand = refl; gives = refl }

abbrev pub plain-45 : View ℕ
plain-45 = record plain-44 { conns = with_at 3 (record { client = InHeader2; phase = Ready; wires = Flow ([]) (Head ∷ Feat ∷ []); ending = Stands; footed = false; gone = false }) plain-44.conns }

pub plain-45-is : IsUpHand 3 plain-44 plain-45
plain-45-is = record { conn = record { client = InHeader2; phase = Restart; wires = Flow (Hdr ∷ []) ([]); ending = Stands; footed = false; gone = false }; is = refl; word = Hdr; rest = []; first = refl; phase = Ready; puts = Head ∷ Feat ∷ []; hand = refl; gives = refl }

abbrev pub plain-46 : View ℕ
plain-46 = record plain-45 { conns = with_at 3 (record { client = InFeatures2; phase = Ready; wires = Flow ([]) (Feat ∷ []); ending = Stands; footed = false; gone = false }) plain-45.conns }

pub plain-46-is : IsDownHand 3 plain-45 plain-46
plain-46-is = record { conn = record { client = InHeader2; phase = Ready; wires = Flow ([]) (Head ∷ Feat ∷ []); ending = Stands; footed = false; gone = false }; is = refl; here = refl; word = Head; rest = Feat ∷ []; first = refl; early = tt; client = InFeatures2; puts = []; hand = refl; gives = refl }

abbrev pub plain-47 : View ℕ
plain-47 = record plain-46 { conns = with_at 3 (record { client = (InResume 1); phase = Ready; wires = Flow (ResumeAt 1 0 ∷ []) ([]); ending = Stands; footed = false; gone = false }) plain-46.conns; sessions = alter (λ q s. told_if (has (Some 1) q) s) plain-46.sessions }

pub plain-47-is : IsAskResume 3 plain-46 plain-47
plain-47-is = record { conn = record { client = InFeatures2; phase = Ready; wires = Flow ([]) (Feat ∷ []); ending = Stands; footed = false; gone = false }; is = refl; here = refl; rest = []; first = refl; client = refl; own = record { number = 1; acked = 1; handled = 0; queue = 11 ∷ [] }; is_own = refl; gives = refl }

abbrev pub plain-48 : View ℕ
plain-48 = record plain-47 { conns = with_at 3 (record { client = (InResume 1); phase = Ready; wires = Stop (ResumeAt 1 0 ∷ []) ([]) ([]) ([]); ending = Stands; footed = false; gone = false }) plain-47.conns; sessions = alter (ways_cut true (record { client = (InResume 1); phase = Ready; wires = Flow (ResumeAt 1 0 ∷ []) ([]); ending = Stands; footed = false; gone = false }) 1 0) plain-47.sessions }

pub plain-48-is : IsCut 3 1 0 plain-47 plain-48
plain-48-is = record { conn = record { client = (InResume 1); phase = Ready; wires = Flow (ResumeAt 1 0 ∷ []) ([]); ending = Stands; footed = false; gone = false }; is = refl; gives = refl }

abbrev pub plain-49 : View ℕ
plain-49 = record plain-48 { here = None }

pub plain-49-is : IsLetGo 3 plain-48 plain-49
plain-49-is = record { conn = record { client = (InResume 1); phase = Ready; wires = Stop (ResumeAt 1 0 ∷ []) ([]) ([]) ([]); ending = Stands; footed = false; gone = false }; here = refl; is = refl; ended = refl; empty = refl; gives = refl }

abbrev pub plain-50 : View ℕ
plain-50 = record plain-49 { here = Some 4; conns = with_at 4 (record { client = InHeader1; phase = Start; wires = Flow (Hdr ∷ []) ([]); ending = Stands; footed = false; gone = false }) plain-49.conns }

pub plain-50-is : IsDialled 4 plain-49 plain-50
plain-50-is = record { idle = refl; fresh = refl; gives = refl }

abbrev pub plain-51 : View ℕ
plain-51 = record plain-50 { conns = with_at 4 (record { client = InHeader1; phase = Sasl; wires = Flow ([]) (Head ∷ Feat ∷ []); ending = Stands; footed = false; gone = false }) plain-50.conns }

pub plain-51-is : IsUpHand 4 plain-50 plain-51
plain-51-is = record { conn = record { client = InHeader1; phase = Start; wires = Flow (Hdr ∷ []) ([]); ending = Stands; footed = false; gone = false }; is = refl; word = Hdr; rest = []; first = refl; phase = Sasl; puts = Head ∷ Feat ∷ []; hand = refl; gives = refl }

abbrev pub plain-52 : View ℕ
plain-52 = record plain-51 { conns = with_at 4 (record { client = InFeatures1; phase = Sasl; wires = Flow ([]) (Feat ∷ []); ending = Stands; footed = false; gone = false }) plain-51.conns }

pub plain-52-is : IsDownHand 4 plain-51 plain-52
plain-52-is = record { conn = record { client = InHeader1; phase = Sasl; wires = Flow ([]) (Head ∷ Feat ∷ []); ending = Stands; footed = false; gone = false }; is = refl; here = refl; word = Head; rest = Feat ∷ []; first = refl; early = tt; client = InFeatures1; puts = []; hand = refl; gives = refl }

abbrev pub plain-53 : View ℕ
plain-53 = record plain-52 { conns = with_at 4 (record { client = InAuth; phase = Sasl; wires = Flow (Auth ∷ []) ([]); ending = Stands; footed = false; gone = false }) plain-52.conns }

pub plain-53-is : IsDownHand 4 plain-52 plain-53
plain-53-is = record { conn = record { client = InFeatures1; phase = Sasl; wires = Flow ([]) (Feat ∷ []); ending = Stands; footed = false; gone = false }; is = refl; here = refl; word = Feat; rest = []; first = refl; early = tt; client = InAuth; puts = Auth ∷ []; hand = refl; gives = refl }

abbrev pub plain-54 : View ℕ
plain-54 = record plain-53 { conns = with_at 4 (record { client = InAuth; phase = Challenge; wires = Flow ([]) (Chal ∷ []); ending = Stands; footed = false; gone = false }) plain-53.conns }

pub plain-54-is : IsUpHand 4 plain-53 plain-54
plain-54-is = record { conn = record { client = InAuth; phase = Sasl; wires = Flow (Auth ∷ []) ([]); ending = Stands; footed = false; gone = false }; is = refl; word = Auth; rest = []; first = refl; phase = Challenge; puts = Chal ∷ []; hand = refl; gives = refl }

abbrev pub plain-55 : View ℕ
plain-55 = record plain-54 { conns = with_at 4 (record { client = InResponse; phase = Challenge; wires = Flow (Resp ∷ []) ([]); ending = Stands; footed = false; gone = false }) plain-54.conns }

pub plain-55-is : IsDownHand 4 plain-54 plain-55
plain-55-is = record { conn = record { client = InAuth; phase = Challenge; wires = Flow ([]) (Chal ∷ []); ending = Stands; footed = false; gone = false }; is = refl; here = refl; word = Chal; rest = []; first = refl; early = tt; client = InResponse; puts = Resp ∷ []; hand = refl; gives = refl }

abbrev pub plain-56 : View ℕ
plain-56 = record plain-55 { conns = with_at 4 (record { client = InResponse; phase = Restart; wires = Flow ([]) (Succ ∷ []); ending = Stands; footed = false; gone = false }) plain-55.conns }

pub plain-56-is : IsUpHand 4 plain-55 plain-56
plain-56-is = record { conn = record { client = InResponse; phase = Challenge; wires = Flow (Resp ∷ []) ([]); ending = Stands; footed = false; gone = false }; is = refl; word = Resp; rest = []; first = refl; phase = Restart; puts = Succ ∷ []; hand = refl; gives = refl }

abbrev pub plain-57 : View ℕ
plain-57 = record plain-56 { conns = with_at 4 (record { client = InHeader2; phase = Restart; wires = Flow (Hdr ∷ []) ([]); ending = Stands; footed = false; gone = false }) plain-56.conns }

pub plain-57-is : IsDownHand 4 plain-56 plain-57
plain-57-is = record { conn = record { client = InResponse; phase = Restart; wires = Flow ([]) (Succ ∷ []); ending = Stands; footed = false; gone = false }; is = refl; here = refl; word = Succ; rest = []; first = refl; early = tt; client = InHeader2; puts = Hdr ∷ []; hand = refl; gives = refl }

abbrev pub plain-58 : View ℕ
plain-58 = record plain-57 { conns = with_at 4 (record { client = InHeader2; phase = Ready; wires = Flow ([]) (Head ∷ Feat ∷ []); ending = Stands; footed = false; gone = false }) plain-57.conns }

pub plain-58-is : IsUpHand 4 plain-57 plain-58
plain-58-is = record { conn = record { client = InHeader2; phase = Restart; wires = Flow (Hdr ∷ []) ([]); ending = Stands; footed = false; gone = false }; is = refl; word = Hdr; rest = []; first = refl; phase = Ready; puts = Head ∷ Feat ∷ []; hand = refl; gives = refl }

abbrev pub plain-59 : View ℕ
plain-59 = record plain-58 { conns = with_at 4 (record { client = InFeatures2; phase = Ready; wires = Flow ([]) (Feat ∷ []); ending = Stands; footed = false; gone = false }) plain-58.conns }

pub plain-59-is : IsDownHand 4 plain-58 plain-59
plain-59-is = record { conn = record { client = InHeader2; phase = Ready; wires = Flow ([]) (Head ∷ Feat ∷ []); ending = Stands; footed = false; gone = false }; is = refl; here = refl; word = Head; rest = Feat ∷ []; first = refl; early = tt; client = InFeatures2; puts = []; hand = refl; gives = refl }

abbrev pub plain-60 : View ℕ
plain-60 = record plain-59 { conns = with_at 4 (record { client = (InResume 1); phase = Ready; wires = Flow (ResumeAt 1 0 ∷ []) ([]); ending = Stands; footed = false; gone = false }) plain-59.conns; sessions = alter (λ q s. told_if (has (Some 1) q) s) plain-59.sessions }

pub plain-60-is : IsAskResume 4 plain-59 plain-60
plain-60-is = record { conn = record { client = InFeatures2; phase = Ready; wires = Flow ([]) (Feat ∷ []); ending = Stands; footed = false; gone = false }; is = refl; here = refl; rest = []; first = refl; client = refl; own = record { number = 1; acked = 1; handled = 0; queue = 11 ∷ [] }; is_own = refl; gives = refl }

abbrev pub plain-61 : View ℕ
plain-61 = record plain-60 { conns = with_at 2 (record { client = (InOnline 1); phase = (AtSession 1); wires = Stop ([]) ([]) (Up (St 11) ∷ Up Req ∷ []) (Err Conflict ∷ End ∷ []); ending = Errs Conflict; footed = false; gone = false }) plain-60.conns; row = Some (record { number = 1; on = None; counted = true; acked = 0; handled = 1; queue = [] }); sessions = alter (λ q s. lost_if (has (Some 1) q) (s.counted && (false && has (carries {A = ℕ} (record { client = (InOnline 1); phase = (AtSession 1); wires = Stop ([]) ([]) (Up (St 11) ∷ Up Req ∷ []) ([]); ending = Stands; footed = false; gone = false })) q)) s) plain-60.sessions }

pub plain-61-is : IsDetached 2 (Errs Conflict) plain-60 plain-61
plain-61-is = record { conn = record { client = (InOnline 1); phase = (AtSession 1); wires = Stop ([]) ([]) (Up (St 11) ∷ Up Req ∷ []) ([]); ending = Stands; footed = false; gone = false }; is = refl; row = record { number = 1; on = Some 2; counted = true; acked = 0; handled = 1; queue = [] }; is_row = refl; on = refl; counted = refl; reason = tt; gives = refl }

abbrev pub plain-62 : View ℕ
plain-62 = record plain-61 { conns = with_at 4 (record { client = (InResume 1); phase = (AtSession 1); wires = Flow ([]) (Resumed 1 1 ∷ []); ending = Stands; footed = false; gone = false }) plain-61.conns; row = Some (record { number = 1; on = Some 4; counted = true; acked = 0; handled = 1; queue = [] }); sessions = alter (λ q s. resumed_if (has (Some 1) q) true s) plain-61.sessions }

pub plain-62-is : IsResumedHere 4 plain-61 plain-62
plain-62-is = record { conn = record { client = (InResume 1); phase = Ready; wires = Flow (ResumeAt 1 0 ∷ []) ([]); ending = Stands; footed = false; gone = false }; is = refl; rest = []; first = refl; here = refl; h = 0; row = record { number = 1; on = None; counted = true; acked = 0; handled = 1; queue = [] }; is_row = refl; off = refl; counted = refl; gives = refl }

abbrev pub plain-63 : View ℕ
plain-63 = record plain-62 { conns = with_at 4 (record { client = (InResume 1); phase = (AtSession 1); wires = Stop ([]) (Resumed 1 1 ∷ Err Conflict ∷ End ∷ []) ([]) ([]); ending = Errs Conflict; footed = false; gone = false }) plain-62.conns; row = Some (record { number = 1; on = None; counted = true; acked = 0; handled = 1; queue = [] }); sessions = alter (λ q s. lost_if (has (Some 1) q) (s.counted && (true && has (carries {A = ℕ} (record { client = (InResume 1); phase = (AtSession 1); wires = Flow ([]) (Resumed 1 1 ∷ []); ending = Stands; footed = false; gone = false })) q)) s) plain-62.sessions }

pub plain-63-is : IsDetached 4 (Errs Conflict) plain-62 plain-63
plain-63-is = record { conn = record { client = (InResume 1); phase = (AtSession 1); wires = Flow ([]) (Resumed 1 1 ∷ []); ending = Stands; footed = false; gone = false }; is = refl; row = record { number = 1; on = Some 4; counted = true; acked = 0; handled = 1; queue = [] }; is_row = refl; on = refl; counted = refl; reason = tt; gives = refl }

pub plain-63-reached : LinkReached plain-63
plain-63-reached = record { moves = Dials 1 ∷ TakesHand 1 ∷ ReadsHand 1 ∷ ReadsHand 1 ∷ TakesHand 1 ∷ ReadsHand 1 ∷ TakesHand 1 ∷ ReadsHand 1 ∷ TakesHand 1 ∷ ReadsHand 1 ∷ AsksToBind 1 ∷ TakesBind 1 1 ∷ ReadsBound 1 1 ∷ TakesEnable 1 ∷ ReadsEnabled 1 1 ∷ Puts 1 10 ∷ Puts 1 11 ∷ TakesStanza 1 10 ∷ Cuts 1 0 0 ∷ LetsGo 1 ∷ Dials 2 ∷ TakesHand 2 ∷ ReadsHand 2 ∷ ReadsHand 2 ∷ TakesHand 2 ∷ ReadsHand 2 ∷ TakesHand 2 ∷ ReadsHand 2 ∷ TakesHand 2 ∷ ReadsHand 2 ∷ AsksToResume 2 ∷ Detaches 1 (Errs Conflict) ∷ TakesResume 2 ∷ ReadsResumed 2 ∷ Cuts 2 0 0 ∷ LetsGo 2 ∷ Dials 3 ∷ TakesHand 3 ∷ ReadsHand 3 ∷ ReadsHand 3 ∷ TakesHand 3 ∷ ReadsHand 3 ∷ TakesHand 3 ∷ ReadsHand 3 ∷ TakesHand 3 ∷ ReadsHand 3 ∷ AsksToResume 3 ∷ Cuts 3 1 0 ∷ LetsGo 3 ∷ Dials 4 ∷ TakesHand 4 ∷ ReadsHand 4 ∷ ReadsHand 4 ∷ TakesHand 4 ∷ ReadsHand 4 ∷ TakesHand 4 ∷ ReadsHand 4 ∷ TakesHand 4 ∷ ReadsHand 4 ∷ AsksToResume 4 ∷ Detaches 2 (Errs Conflict) ∷ TakesResume 4 ∷ Detaches 4 (Errs Conflict) ∷ []; reaches = (plain-1, plain-1-is, (plain-2, plain-2-is, (plain-3, plain-3-is, (plain-4, plain-4-is, (plain-5, plain-5-is, (plain-6, plain-6-is, (plain-7, plain-7-is, (plain-8, plain-8-is, (plain-9, plain-9-is, (plain-10, plain-10-is, (plain-11, plain-11-is, (plain-12, plain-12-is, (plain-13, plain-13-is, (plain-14, plain-14-is, (plain-15, plain-15-is, (plain-16, plain-16-is, (plain-17, plain-17-is, (plain-18, plain-18-is, (plain-19, plain-19-is, (plain-20, plain-20-is, (plain-21, plain-21-is, (plain-22, plain-22-is, (plain-23, plain-23-is, (plain-24, plain-24-is, (plain-25, plain-25-is, (plain-26, plain-26-is, (plain-27, plain-27-is, (plain-28, plain-28-is, (plain-29, plain-29-is, (plain-30, plain-30-is, (plain-31, plain-31-is, (plain-32, plain-32-is, (plain-33, plain-33-is, (plain-34, plain-34-is, (plain-35, plain-35-is, (plain-36, plain-36-is, (plain-37, plain-37-is, (plain-38, plain-38-is, (plain-39, plain-39-is, (plain-40, plain-40-is, (plain-41, plain-41-is, (plain-42, plain-42-is, (plain-43, plain-43-is, (plain-44, plain-44-is, (plain-45, plain-45-is, (plain-46, plain-46-is, (plain-47, plain-47-is, (plain-48, plain-48-is, (plain-49, plain-49-is, (plain-50, plain-50-is, (plain-51, plain-51-is, (plain-52, plain-52-is, (plain-53, plain-53-is, (plain-54, plain-54-is, (plain-55, plain-55-is, (plain-56, plain-56-is, (plain-57, plain-57-is, (plain-58, plain-58-is, (plain-59, plain-59-is, (plain-60, plain-60-is, (plain-61, plain-61-is, (plain-62, plain-62-is, (plain-63, plain-63-is, refl))))))))))))))))))))))))))))))))))))))))))))))))))))))))))))))) }

abbrev pub plain-64 : View ℕ
plain-64 = record plain-63 { conns = with_at 3 (record { client = (InResume 1); phase = (AtSession 1); wires = Stop ([]) ([]) ([]) (Resumed 1 1 ∷ []); ending = Stands; footed = false; gone = false }) plain-63.conns; row = Some (record { number = 1; on = Some 3; counted = true; acked = 0; handled = 1; queue = [] }); sessions = alter (λ q s. record s { up = record s.up { stated = if has (Some 1) q then s.up.stated ++ length s.up.got ∷ [] else s.up.stated }; down = record s.down { acked = if has (Some 1) q then 0 else s.down.acked } }) plain-63.sessions }

pub plain-64-is : IsResumedLate 3 plain-63 plain-64
plain-64-is = record { conn = record { client = (InResume 1); phase = Ready; wires = Stop (ResumeAt 1 0 ∷ []) ([]) ([]) ([]); ending = Stands; footed = false; gone = false }; is = refl; rest = []; first = refl; left = refl; h = 0; row = record { number = 1; on = None; counted = true; acked = 0; handled = 1; queue = [] }; is_row = refl; off = refl; counted = refl; low = omega arith; gives = refl }

abbrev pub plain-65 : View ℕ
plain-65 = record plain-64 { conns = with_at 4 (record { client = (InOnline 1); phase = (AtSession 1); wires = Stop ([]) (Err Conflict ∷ End ∷ []) (Up (St 11) ∷ Up Req ∷ []) ([]); ending = Errs Conflict; footed = false; gone = false }) plain-64.conns; own = Some (record { number = 1; acked = 1; handled = 0; queue = 11 ∷ [] }); sessions = alter (λ q s. record s { up = record s.up { acked = if has (Some 1) q then length s.up.got else s.up.acked; way = if has (Some 1) q then (if false then drop (length s.up.got) s.up.put else []) else s.up.way; is_open = if has (Some 1) q then false else s.up.is_open } }) plain-64.sessions }

pub plain-65-is : IsReadResumed 4 plain-64 plain-65
plain-65-is = record { conn = record { client = (InResume 1); phase = (AtSession 1); wires = Stop ([]) (Resumed 1 1 ∷ Err Conflict ∷ End ∷ []) ([]) ([]); ending = Errs Conflict; footed = false; gone = false }; is = refl; here = refl; rest = Err Conflict ∷ End ∷ []; first = refl; client = refl; h = 1; own = record { number = 1; acked = 1; handled = 0; queue = 11 ∷ [] }; is_own = refl; gives = refl }

pub plain-65-reached : LinkReached plain-65
plain-65-reached = record { moves = Dials 1 ∷ TakesHand 1 ∷ ReadsHand 1 ∷ ReadsHand 1 ∷ TakesHand 1 ∷ ReadsHand 1 ∷ TakesHand 1 ∷ ReadsHand 1 ∷ TakesHand 1 ∷ ReadsHand 1 ∷ AsksToBind 1 ∷ TakesBind 1 1 ∷ ReadsBound 1 1 ∷ TakesEnable 1 ∷ ReadsEnabled 1 1 ∷ Puts 1 10 ∷ Puts 1 11 ∷ TakesStanza 1 10 ∷ Cuts 1 0 0 ∷ LetsGo 1 ∷ Dials 2 ∷ TakesHand 2 ∷ ReadsHand 2 ∷ ReadsHand 2 ∷ TakesHand 2 ∷ ReadsHand 2 ∷ TakesHand 2 ∷ ReadsHand 2 ∷ TakesHand 2 ∷ ReadsHand 2 ∷ AsksToResume 2 ∷ Detaches 1 (Errs Conflict) ∷ TakesResume 2 ∷ ReadsResumed 2 ∷ Cuts 2 0 0 ∷ LetsGo 2 ∷ Dials 3 ∷ TakesHand 3 ∷ ReadsHand 3 ∷ ReadsHand 3 ∷ TakesHand 3 ∷ ReadsHand 3 ∷ TakesHand 3 ∷ ReadsHand 3 ∷ TakesHand 3 ∷ ReadsHand 3 ∷ AsksToResume 3 ∷ Cuts 3 1 0 ∷ LetsGo 3 ∷ Dials 4 ∷ TakesHand 4 ∷ ReadsHand 4 ∷ ReadsHand 4 ∷ TakesHand 4 ∷ ReadsHand 4 ∷ TakesHand 4 ∷ ReadsHand 4 ∷ TakesHand 4 ∷ ReadsHand 4 ∷ AsksToResume 4 ∷ Detaches 2 (Errs Conflict) ∷ TakesResume 4 ∷ Detaches 4 (Errs Conflict) ∷ TakesLateResume 3 ∷ ReadsResumed 4 ∷ []; reaches = (plain-1, plain-1-is, (plain-2, plain-2-is, (plain-3, plain-3-is, (plain-4, plain-4-is, (plain-5, plain-5-is, (plain-6, plain-6-is, (plain-7, plain-7-is, (plain-8, plain-8-is, (plain-9, plain-9-is, (plain-10, plain-10-is, (plain-11, plain-11-is, (plain-12, plain-12-is, (plain-13, plain-13-is, (plain-14, plain-14-is, (plain-15, plain-15-is, (plain-16, plain-16-is, (plain-17, plain-17-is, (plain-18, plain-18-is, (plain-19, plain-19-is, (plain-20, plain-20-is, (plain-21, plain-21-is, (plain-22, plain-22-is, (plain-23, plain-23-is, (plain-24, plain-24-is, (plain-25, plain-25-is, (plain-26, plain-26-is, (plain-27, plain-27-is, (plain-28, plain-28-is, (plain-29, plain-29-is, (plain-30, plain-30-is, (plain-31, plain-31-is, (plain-32, plain-32-is, (plain-33, plain-33-is, (plain-34, plain-34-is, (plain-35, plain-35-is, (plain-36, plain-36-is, (plain-37, plain-37-is, (plain-38, plain-38-is, (plain-39, plain-39-is, (plain-40, plain-40-is, (plain-41, plain-41-is, (plain-42, plain-42-is, (plain-43, plain-43-is, (plain-44, plain-44-is, (plain-45, plain-45-is, (plain-46, plain-46-is, (plain-47, plain-47-is, (plain-48, plain-48-is, (plain-49, plain-49-is, (plain-50, plain-50-is, (plain-51, plain-51-is, (plain-52, plain-52-is, (plain-53, plain-53-is, (plain-54, plain-54-is, (plain-55, plain-55-is, (plain-56, plain-56-is, (plain-57, plain-57-is, (plain-58, plain-58-is, (plain-59, plain-59-is, (plain-60, plain-60-is, (plain-61, plain-61-is, (plain-62, plain-62-is, (plain-63, plain-63-is, (plain-64, plain-64-is, (plain-65, plain-65-is, refl))))))))))))))))))))))))))))))))))))))))))))))))))))))))))))))))) }

pub lost_to_a_late_word : plain-65.sessions 1 ≡ Some (record { epoch = Some 1; counted = true; read = true; up = record { put = 10 ∷ 11 ∷ []; acked = 1; got = 10 ∷ []; way = []; is_open = false; stated = 1 ∷ 1 ∷ 1 ∷ [] }; down = record { put = []; acked = 0; got = []; way = []; is_open = false; stated = 0 ∷ 0 ∷ 0 ∷ [] } })
lost_to_a_late_word = refl
