-- Worked runs, by computation: late resumptions between the count that is acknowledged and the one that was handled, and
-- behind the end of a connection.
use Rattle.std.proofs.Common.{◌≡◌, ℕ, true, false, ◌&&◌, ◌++◌, if◌then◌else◌, [], ◌∷◌, length, drop, refl, arith, None, Some}
use Rattle.sm_acks.specs.Delivery.{beginning}
use Rattle.sim_2_links.proofs.LinkRuns.{link_more}
use Rattle.sim_2_links.proofs.Worked.{plain-1, plain-1-is, plain-2, plain-2-is, plain-3, plain-3-is, plain-4, plain-4-is, plain-5, plain-5-is, plain-6, plain-6-is, plain-7, plain-7-is, plain-8, plain-8-is, plain-9, plain-9-is, plain-10, plain-10-is, plain-11, plain-11-is, plain-12, plain-12-is, plain-13, plain-13-is, plain-14, plain-14-is, plain-15, plain-15-is}
use Rattle.sim_2_links.specs.Words.{St, Req, Ack, down_stanzas, Hdr, Auth, Resp, ResumeAt, Up, Head, Feat, Chal, Succ, Resumed, Down, Err, End, Conflict, InHeader1, InFeatures1, InAuth, InResponse, InHeader2, InFeatures2, InResume, InOnline, Start, Sasl, Challenge, Restart, Ready, AtSession}
use Rattle.sim_2_links.specs.Wires.{Flow, Stop}
use Rattle.sim_2_links.specs.Stages.{Stands, Errs}
use Rattle.sim_2_links.specs.Views.{with_at, alter, has, View, carries}
use Rattle.sim_2_links.specs.LinkMoves.{ways_cut, IsCut, IsLetGo, IsDialled, IsUpHand, IsDownHand, read_if, IsDownStanza, told_if, IsDownRequest}
use Rattle.sim_2_links.specs.SessionMoves.{IsAskResume, lost_if, IsDetached, put_if, resumed_if, IsResumedHere, IsResumedLate, IsReadResumed, IsParked}
use Rattle.sim_2_links.specs.PutMoves.{IsServerPut, IsServerRequest}
use Rattle.sim_2_links.specs.Machine.{Cuts, Dials, LetsGo, ReadsHand, AsksToBind, AsksToResume, ReadsResumed, ReadsBound, ReadsEnabled, ReadsStanza, ReadsRequest, TakesHand, TakesResume, TakesLateResume, TakesBind, TakesEnable, Parks, Detaches, Serves, Demands, LinkReached}

-- The client handled 20 and asks to resume on connection 2, which it leaves. It is online again on connection 3, where it
-- handles 21 and states 2, when the old word is taken: the session goes to the dead connection, its count of 1 falls
-- behind the lost one of 2, and what was under way on connection 3 is still handled.
abbrev pub olds-0 : View ℕ
olds-0 = plain-15

olds-0-reached : LinkReached olds-0
olds-0-reached = record { moves = Dials 1 ∷ TakesHand 1 ∷ ReadsHand 1 ∷ ReadsHand 1 ∷ TakesHand 1 ∷ ReadsHand 1 ∷ TakesHand 1 ∷ ReadsHand 1 ∷ TakesHand 1 ∷ ReadsHand 1 ∷ AsksToBind 1 ∷ TakesBind 1 1 ∷ ReadsBound 1 1 ∷ TakesEnable 1 ∷ ReadsEnabled 1 1 ∷ []; reaches = (plain-1, plain-1-is, (plain-2, plain-2-is, (plain-3, plain-3-is, (plain-4, plain-4-is, (plain-5, plain-5-is, (plain-6, plain-6-is, (plain-7, plain-7-is, (plain-8, plain-8-is, (plain-9, plain-9-is, (plain-10, plain-10-is, (plain-11, plain-11-is, (plain-12, plain-12-is, (plain-13, plain-13-is, (plain-14, plain-14-is, (plain-15, plain-15-is, refl))))))))))))))) }

abbrev pub olds-1 : View ℕ
olds-1 = record olds-0 { conns = with_at 1 (record { client = (InOnline 1); phase = (AtSession 1); wires = Flow ([]) (Down (St 20) ∷ []); ending = Stands; footed = false; gone = false }) olds-0.conns; row = Some (record { number = 1; on = Some 1; counted = true; acked = 0; handled = 0; queue = 20 ∷ [] }); sessions = alter (λ q s. record s { down = put_if (has (Some 1) q) 20 s.down }) olds-0.sessions }

olds-1-is : IsServerPut 1 20 olds-0 olds-1
olds-1-is = record { conn = record { client = (InOnline 1); phase = (AtSession 1); wires = Flow ([]) ([]); ending = Stands; footed = false; gone = false }; is = refl; row = record { number = 1; on = Some 1; counted = true; acked = 0; handled = 0; queue = [] }; is_row = refl; on = refl; counted = refl; gives = refl }

olds-1-reached : LinkReached olds-1
olds-1-reached = link_more (Serves 1 20) olds-0 olds-1 olds-0-reached olds-1-is

abbrev pub olds-2 : View ℕ
olds-2 = record olds-1 { conns = with_at 1 (record { client = (InOnline 1); phase = (AtSession 1); wires = Flow ([]) (Down (St 20) ∷ Down (St 21) ∷ []); ending = Stands; footed = false; gone = false }) olds-1.conns; row = Some (record { number = 1; on = Some 1; counted = true; acked = 0; handled = 0; queue = 20 ∷ 21 ∷ [] }); sessions = alter (λ q s. record s { down = put_if (has (Some 1) q) 21 s.down }) olds-1.sessions }

olds-2-is : IsServerPut 1 21 olds-1 olds-2
olds-2-is = record { conn = record { client = (InOnline 1); phase = (AtSession 1); wires = Flow ([]) (Down (St 20) ∷ []); ending = Stands; footed = false; gone = false }; is = refl; row = record { number = 1; on = Some 1; counted = true; acked = 0; handled = 0; queue = 20 ∷ [] }; is_row = refl; on = refl; counted = refl; gives = refl }

olds-2-reached : LinkReached olds-2
olds-2-reached = link_more (Serves 1 21) olds-1 olds-2 olds-1-reached olds-2-is

abbrev pub olds-3 : View ℕ
olds-3 = record olds-2 { conns = with_at 1 (record { client = (InOnline 1); phase = (AtSession 1); wires = Flow ([]) (Down (St 21) ∷ []); ending = Stands; footed = false; gone = false }) olds-2.conns; own = Some (record { number = 1; acked = 0; handled = 1; queue = [] }); sessions = alter (λ q s. read_if (has (Some 1) q) 20 (down_stanzas {A = ℕ} (Down (St 21) ∷ [])) s) olds-2.sessions }

olds-3-is : IsDownStanza 1 20 olds-2 olds-3
olds-3-is = record { conn = record { client = (InOnline 1); phase = (AtSession 1); wires = Flow ([]) (Down (St 20) ∷ Down (St 21) ∷ []); ending = Stands; footed = false; gone = false }; is = refl; here = refl; rest = Down (St 21) ∷ []; first = refl; client = refl; own = record { number = 1; acked = 0; handled = 0; queue = [] }; is_own = refl; gives = refl }

olds-3-reached : LinkReached olds-3
olds-3-reached = link_more (ReadsStanza 1 20) olds-2 olds-3 olds-2-reached olds-3-is

abbrev pub olds-4 : View ℕ
olds-4 = record olds-3 { conns = with_at 1 (record { client = (InOnline 1); phase = (AtSession 1); wires = Stop ([]) ([]) ([]) (Down (St 21) ∷ []); ending = Stands; footed = false; gone = false }) olds-3.conns; sessions = alter (ways_cut true (record { client = (InOnline 1); phase = (AtSession 1); wires = Flow ([]) (Down (St 21) ∷ []); ending = Stands; footed = false; gone = false }) 0 0) olds-3.sessions }

olds-4-is : IsCut 1 0 0 olds-3 olds-4
olds-4-is = record { conn = record { client = (InOnline 1); phase = (AtSession 1); wires = Flow ([]) (Down (St 21) ∷ []); ending = Stands; footed = false; gone = false }; is = refl; gives = refl }

olds-4-reached : LinkReached olds-4
olds-4-reached = link_more (Cuts 1 0 0) olds-3 olds-4 olds-3-reached olds-4-is

abbrev pub olds-5 : View ℕ
olds-5 = record olds-4 { here = None }

olds-5-is : IsLetGo 1 olds-4 olds-5
olds-5-is = record { conn = record { client = (InOnline 1); phase = (AtSession 1); wires = Stop ([]) ([]) ([]) (Down (St 21) ∷ []); ending = Stands; footed = false; gone = false }; here = refl; is = refl; ended = refl; empty = refl; gives = refl }

olds-5-reached : LinkReached olds-5
olds-5-reached = link_more (LetsGo 1) olds-4 olds-5 olds-4-reached olds-5-is

abbrev pub olds-6 : View ℕ
olds-6 = record olds-5 { here = Some 2; conns = with_at 2 (record { client = InHeader1; phase = Start; wires = Flow (Hdr ∷ []) ([]); ending = Stands; footed = false; gone = false }) olds-5.conns }

olds-6-is : IsDialled 2 olds-5 olds-6
olds-6-is = record { idle = refl; fresh = refl; gives = refl }

olds-6-reached : LinkReached olds-6
olds-6-reached = link_more (Dials 2) olds-5 olds-6 olds-5-reached olds-6-is

abbrev pub olds-7 : View ℕ
olds-7 = record olds-6 { conns = with_at 2 (record { client = InHeader1; phase = Sasl; wires = Flow ([]) (Head ∷ Feat ∷ []); ending = Stands; footed = false; gone = false }) olds-6.conns }

olds-7-is : IsUpHand 2 olds-6 olds-7
olds-7-is = record { conn = record { client = InHeader1; phase = Start; wires = Flow (Hdr ∷ []) ([]); ending = Stands; footed = false; gone = false }; is = refl; word = Hdr; rest = []; first = refl; phase = Sasl; puts = Head ∷ Feat ∷ []; hand = refl; gives = refl }

olds-7-reached : LinkReached olds-7
olds-7-reached = link_more (TakesHand 2) olds-6 olds-7 olds-6-reached olds-7-is

abbrev pub olds-8 : View ℕ
olds-8 = record olds-7 { conns = with_at 2 (record { client = InFeatures1; phase = Sasl; wires = Flow ([]) (Feat ∷ []); ending = Stands; footed = false; gone = false }) olds-7.conns }

olds-8-is : IsDownHand 2 olds-7 olds-8
olds-8-is = record { conn = record { client = InHeader1; phase = Sasl; wires = Flow ([]) (Head ∷ Feat ∷ []); ending = Stands; footed = false; gone = false }; is = refl; here = refl; word = Head; rest = Feat ∷ []; first = refl; early = tt; client = InFeatures1; puts = []; hand = refl; gives = refl }

olds-8-reached : LinkReached olds-8
olds-8-reached = link_more (ReadsHand 2) olds-7 olds-8 olds-7-reached olds-8-is

abbrev pub olds-9 : View ℕ
olds-9 = record olds-8 { conns = with_at 2 (record { client = InAuth; phase = Sasl; wires = Flow (Auth ∷ []) ([]); ending = Stands; footed = false; gone = false }) olds-8.conns }

olds-9-is : IsDownHand 2 olds-8 olds-9
olds-9-is = record { conn = record { client = InFeatures1; phase = Sasl; wires = Flow ([]) (Feat ∷ []); ending = Stands; footed = false; gone = false }; is = refl; here = refl; word = Feat; rest = []; first = refl; early = tt; client = InAuth; puts = Auth ∷ []; hand = refl; gives = refl }

olds-9-reached : LinkReached olds-9
olds-9-reached = link_more (ReadsHand 2) olds-8 olds-9 olds-8-reached olds-9-is

abbrev pub olds-10 : View ℕ
olds-10 = record olds-9 { conns = with_at 2 (record { client = InAuth; phase = Challenge; wires = Flow ([]) (Chal ∷ []); ending = Stands; footed = false; gone = false }) olds-9.conns }

olds-10-is : IsUpHand 2 olds-9 olds-10
olds-10-is = record { conn = record { client = InAuth; phase = Sasl; wires = Flow (Auth ∷ []) ([]); ending = Stands; footed = false; gone = false }; is = refl; word = Auth; rest = []; first = refl; phase = Challenge; puts = Chal ∷ []; hand = refl; gives = refl }

olds-10-reached : LinkReached olds-10
olds-10-reached = link_more (TakesHand 2) olds-9 olds-10 olds-9-reached olds-10-is

abbrev pub olds-11 : View ℕ
olds-11 = record olds-10 { conns = with_at 2 (record { client = InResponse; phase = Challenge; wires = Flow (Resp ∷ []) ([]); ending = Stands; footed = false; gone = false }) olds-10.conns }

olds-11-is : IsDownHand 2 olds-10 olds-11
olds-11-is = record { conn = record { client = InAuth; phase = Challenge; wires = Flow ([]) (Chal ∷ []); ending = Stands; footed = false; gone = false }; is = refl; here = refl; word = Chal; rest = []; first = refl; early = tt; client = InResponse; puts = Resp ∷ []; hand = refl; gives = refl }

olds-11-reached : LinkReached olds-11
olds-11-reached = link_more (ReadsHand 2) olds-10 olds-11 olds-10-reached olds-11-is

abbrev pub olds-12 : View ℕ
olds-12 = record olds-11 { conns = with_at 2 (record { client = InResponse; phase = Restart; wires = Flow ([]) (Succ ∷ []); ending = Stands; footed = false; gone = false }) olds-11.conns }

olds-12-is : IsUpHand 2 olds-11 olds-12
olds-12-is = record { conn = record { client = InResponse; phase = Challenge; wires = Flow (Resp ∷ []) ([]); ending = Stands; footed = false; gone = false }; is = refl; word = Resp; rest = []; first = refl; phase = Restart; puts = Succ ∷ []; hand = refl; gives = refl }

olds-12-reached : LinkReached olds-12
olds-12-reached = link_more (TakesHand 2) olds-11 olds-12 olds-11-reached olds-12-is

abbrev pub olds-13 : View ℕ
olds-13 = record olds-12 { conns = with_at 2 (record { client = InHeader2; phase = Restart; wires = Flow (Hdr ∷ []) ([]); ending = Stands; footed = false; gone = false }) olds-12.conns }

olds-13-is : IsDownHand 2 olds-12 olds-13
olds-13-is = record { conn = record { client = InResponse; phase = Restart; wires = Flow ([]) (Succ ∷ []); ending = Stands; footed = false; gone = false }; is = refl; here = refl; word = Succ; rest = []; first = refl; early = tt; client = InHeader2; puts = Hdr ∷ []; hand = refl; gives = refl }

olds-13-reached : LinkReached olds-13
olds-13-reached = link_more (ReadsHand 2) olds-12 olds-13 olds-12-reached olds-13-is

abbrev pub olds-14 : View ℕ
olds-14 = record olds-13 { conns = with_at 2 (record { client = InHeader2; phase = Ready; wires = Flow ([]) (Head ∷ Feat ∷ []); ending = Stands; footed = false; gone = false }) olds-13.conns }

olds-14-is : IsUpHand 2 olds-13 olds-14
olds-14-is = record { conn = record { client = InHeader2; phase = Restart; wires = Flow (Hdr ∷ []) ([]); ending = Stands; footed = false; gone = false }; is = refl; word = Hdr; rest = []; first = refl; phase = Ready; puts = Head ∷ Feat ∷ []; hand = refl; gives = refl }

olds-14-reached : LinkReached olds-14
olds-14-reached = link_more (TakesHand 2) olds-13 olds-14 olds-13-reached olds-14-is

abbrev pub olds-15 : View ℕ
olds-15 = record olds-14 { conns = with_at 2 (record { client = InFeatures2; phase = Ready; wires = Flow ([]) (Feat ∷ []); ending = Stands; footed = false; gone = false }) olds-14.conns }

olds-15-is : IsDownHand 2 olds-14 olds-15
olds-15-is = record { conn = record { client = InHeader2; phase = Ready; wires = Flow ([]) (Head ∷ Feat ∷ []); ending = Stands; footed = false; gone = false }; is = refl; here = refl; word = Head; rest = Feat ∷ []; first = refl; early = tt; client = InFeatures2; puts = []; hand = refl; gives = refl }

olds-15-reached : LinkReached olds-15
olds-15-reached = link_more (ReadsHand 2) olds-14 olds-15 olds-14-reached olds-15-is

abbrev pub olds-16 : View ℕ
olds-16 = record olds-15 { conns = with_at 2 (record { client = (InResume 1); phase = Ready; wires = Flow (ResumeAt 1 1 ∷ []) ([]); ending = Stands; footed = false; gone = false }) olds-15.conns; sessions = alter (λ q s. told_if (has (Some 1) q) s) olds-15.sessions }

olds-16-is : IsAskResume 2 olds-15 olds-16
olds-16-is = record { conn = record { client = InFeatures2; phase = Ready; wires = Flow ([]) (Feat ∷ []); ending = Stands; footed = false; gone = false }; is = refl; here = refl; rest = []; first = refl; client = refl; own = record { number = 1; acked = 0; handled = 1; queue = [] }; is_own = refl; gives = refl }

olds-16-reached : LinkReached olds-16
olds-16-reached = link_more (AsksToResume 2) olds-15 olds-16 olds-15-reached olds-16-is

abbrev pub olds-17 : View ℕ
olds-17 = record olds-16 { conns = with_at 2 (record { client = (InResume 1); phase = Ready; wires = Stop (ResumeAt 1 1 ∷ []) ([]) ([]) ([]); ending = Stands; footed = false; gone = false }) olds-16.conns; sessions = alter (ways_cut true (record { client = (InResume 1); phase = Ready; wires = Flow (ResumeAt 1 1 ∷ []) ([]); ending = Stands; footed = false; gone = false }) 1 0) olds-16.sessions }

olds-17-is : IsCut 2 1 0 olds-16 olds-17
olds-17-is = record { conn = record { client = (InResume 1); phase = Ready; wires = Flow (ResumeAt 1 1 ∷ []) ([]); ending = Stands; footed = false; gone = false }; is = refl; gives = refl }

olds-17-reached : LinkReached olds-17
olds-17-reached = link_more (Cuts 2 1 0) olds-16 olds-17 olds-16-reached olds-17-is

abbrev pub olds-18 : View ℕ
olds-18 = record olds-17 { here = None }

olds-18-is : IsLetGo 2 olds-17 olds-18
olds-18-is = record { conn = record { client = (InResume 1); phase = Ready; wires = Stop (ResumeAt 1 1 ∷ []) ([]) ([]) ([]); ending = Stands; footed = false; gone = false }; here = refl; is = refl; ended = refl; empty = refl; gives = refl }

olds-18-reached : LinkReached olds-18
olds-18-reached = link_more (LetsGo 2) olds-17 olds-18 olds-17-reached olds-18-is

abbrev pub olds-19 : View ℕ
olds-19 = record olds-18 { here = Some 3; conns = with_at 3 (record { client = InHeader1; phase = Start; wires = Flow (Hdr ∷ []) ([]); ending = Stands; footed = false; gone = false }) olds-18.conns }

olds-19-is : IsDialled 3 olds-18 olds-19
olds-19-is = record { idle = refl; fresh = refl; gives = refl }

olds-19-reached : LinkReached olds-19
olds-19-reached = link_more (Dials 3) olds-18 olds-19 olds-18-reached olds-19-is

abbrev pub olds-20 : View ℕ
olds-20 = record olds-19 { conns = with_at 3 (record { client = InHeader1; phase = Sasl; wires = Flow ([]) (Head ∷ Feat ∷ []); ending = Stands; footed = false; gone = false }) olds-19.conns }

olds-20-is : IsUpHand 3 olds-19 olds-20
olds-20-is = record { conn = record { client = InHeader1; phase = Start; wires = Flow (Hdr ∷ []) ([]); ending = Stands; footed = false; gone = false }; is = refl; word = Hdr; rest = []; first = refl; phase = Sasl; puts = Head ∷ Feat ∷ []; hand = refl; gives = refl }

olds-20-reached : LinkReached olds-20
olds-20-reached = link_more (TakesHand 3) olds-19 olds-20 olds-19-reached olds-20-is

abbrev pub olds-21 : View ℕ
olds-21 = record olds-20 { conns = with_at 3 (record { client = InFeatures1; phase = Sasl; wires = Flow ([]) (Feat ∷ []); ending = Stands; footed = false; gone = false }) olds-20.conns }

olds-21-is : IsDownHand 3 olds-20 olds-21
olds-21-is = record { conn = record { client = InHeader1; phase = Sasl; wires = Flow ([]) (Head ∷ Feat ∷ []); ending = Stands; footed = false; gone = false }; is = refl; here = refl; word = Head; rest = Feat ∷ []; first = refl; early = tt; client = InFeatures1; puts = []; hand = refl; gives = refl }

olds-21-reached : LinkReached olds-21
olds-21-reached = link_more (ReadsHand 3) olds-20 olds-21 olds-20-reached olds-21-is

abbrev pub olds-22 : View ℕ
olds-22 = record olds-21 { conns = with_at 3 (record { client = InAuth; phase = Sasl; wires = Flow (Auth ∷ []) ([]); ending = Stands; footed = false; gone = false }) olds-21.conns }

olds-22-is : IsDownHand 3 olds-21 olds-22
olds-22-is = record { conn = record { client = InFeatures1; phase = Sasl; wires = Flow ([]) (Feat ∷ []); ending = Stands; footed = false; gone = false }; is = refl; here = refl; word = Feat; rest = []; first = refl; early = tt; client = InAuth; puts = Auth ∷ []; hand = refl; gives = refl }

olds-22-reached : LinkReached olds-22
olds-22-reached = link_more (ReadsHand 3) olds-21 olds-22 olds-21-reached olds-22-is

abbrev pub olds-23 : View ℕ
olds-23 = record olds-22 { conns = with_at 3 (record { client = InAuth; phase = Challenge; wires = Flow ([]) (Chal ∷ []); ending = Stands; footed = false; gone = false }) olds-22.conns }

olds-23-is : IsUpHand 3 olds-22 olds-23
olds-23-is = record { conn = record { client = InAuth; phase = Sasl; wires = Flow (Auth ∷ []) ([]); ending = Stands; footed = false; gone = false }; is = refl; word = Auth; rest = []; first = refl; phase = Challenge; puts = Chal ∷ []; hand = refl; gives = refl }

olds-23-reached : LinkReached olds-23
olds-23-reached = link_more (TakesHand 3) olds-22 olds-23 olds-22-reached olds-23-is

abbrev pub olds-24 : View ℕ
olds-24 = record olds-23 { conns = with_at 3 (record { client = InResponse; phase = Challenge; wires = Flow (Resp ∷ []) ([]); ending = Stands; footed = false; gone = false }) olds-23.conns }

olds-24-is : IsDownHand 3 olds-23 olds-24
olds-24-is = record { conn = record { client = InAuth; phase = Challenge; wires = Flow ([]) (Chal ∷ []); ending = Stands; footed = false; gone = false }; is = refl; here = refl; word = Chal; rest = []; first = refl; early = tt; client = InResponse; puts = Resp ∷ []; hand = refl; gives = refl }

olds-24-reached : LinkReached olds-24
olds-24-reached = link_more (ReadsHand 3) olds-23 olds-24 olds-23-reached olds-24-is

abbrev pub olds-25 : View ℕ
olds-25 = record olds-24 { conns = with_at 3 (record { client = InResponse; phase = Restart; wires = Flow ([]) (Succ ∷ []); ending = Stands; footed = false; gone = false }) olds-24.conns }

olds-25-is : IsUpHand 3 olds-24 olds-25
olds-25-is = record { conn = record { client = InResponse; phase = Challenge; wires = Flow (Resp ∷ []) ([]); ending = Stands; footed = false; gone = false }; is = refl; word = Resp; rest = []; first = refl; phase = Restart; puts = Succ ∷ []; hand = refl; gives = refl }

olds-25-reached : LinkReached olds-25
olds-25-reached = link_more (TakesHand 3) olds-24 olds-25 olds-24-reached olds-25-is

abbrev pub olds-26 : View ℕ
olds-26 = record olds-25 { conns = with_at 3 (record { client = InHeader2; phase = Restart; wires = Flow (Hdr ∷ []) ([]); ending = Stands; footed = false; gone = false }) olds-25.conns }

olds-26-is : IsDownHand 3 olds-25 olds-26
olds-26-is = record { conn = record { client = InResponse; phase = Restart; wires = Flow ([]) (Succ ∷ []); ending = Stands; footed = false; gone = false }; is = refl; here = refl; word = Succ; rest = []; first = refl; early = tt; client = InHeader2; puts = Hdr ∷ []; hand = refl; gives = refl }

olds-26-reached : LinkReached olds-26
olds-26-reached = link_more (ReadsHand 3) olds-25 olds-26 olds-25-reached olds-26-is

abbrev pub olds-27 : View ℕ
olds-27 = record olds-26 { conns = with_at 3 (record { client = InHeader2; phase = Ready; wires = Flow ([]) (Head ∷ Feat ∷ []); ending = Stands; footed = false; gone = false }) olds-26.conns }

olds-27-is : IsUpHand 3 olds-26 olds-27
olds-27-is = record { conn = record { client = InHeader2; phase = Restart; wires = Flow (Hdr ∷ []) ([]); ending = Stands; footed = false; gone = false }; is = refl; word = Hdr; rest = []; first = refl; phase = Ready; puts = Head ∷ Feat ∷ []; hand = refl; gives = refl }

olds-27-reached : LinkReached olds-27
olds-27-reached = link_more (TakesHand 3) olds-26 olds-27 olds-26-reached olds-27-is

abbrev pub olds-28 : View ℕ
olds-28 = record olds-27 { conns = with_at 3 (record { client = InFeatures2; phase = Ready; wires = Flow ([]) (Feat ∷ []); ending = Stands; footed = false; gone = false }) olds-27.conns }

olds-28-is : IsDownHand 3 olds-27 olds-28
olds-28-is = record { conn = record { client = InHeader2; phase = Ready; wires = Flow ([]) (Head ∷ Feat ∷ []); ending = Stands; footed = false; gone = false }; is = refl; here = refl; word = Head; rest = Feat ∷ []; first = refl; early = tt; client = InFeatures2; puts = []; hand = refl; gives = refl }

olds-28-reached : LinkReached olds-28
olds-28-reached = link_more (ReadsHand 3) olds-27 olds-28 olds-27-reached olds-28-is

abbrev pub olds-29 : View ℕ
olds-29 = record olds-28 { conns = with_at 3 (record { client = (InResume 1); phase = Ready; wires = Flow (ResumeAt 1 1 ∷ []) ([]); ending = Stands; footed = false; gone = false }) olds-28.conns; sessions = alter (λ q s. told_if (has (Some 1) q) s) olds-28.sessions }

olds-29-is : IsAskResume 3 olds-28 olds-29
olds-29-is = record { conn = record { client = InFeatures2; phase = Ready; wires = Flow ([]) (Feat ∷ []); ending = Stands; footed = false; gone = false }; is = refl; here = refl; rest = []; first = refl; client = refl; own = record { number = 1; acked = 0; handled = 1; queue = [] }; is_own = refl; gives = refl }

olds-29-reached : LinkReached olds-29
olds-29-reached = link_more (AsksToResume 3) olds-28 olds-29 olds-28-reached olds-29-is

abbrev pub olds-30 : View ℕ
olds-30 = record olds-29 { conns = with_at 1 (record { client = (InOnline 1); phase = (AtSession 1); wires = Stop ([]) ([]) ([]) (Down (St 21) ∷ Err Conflict ∷ End ∷ []); ending = Errs Conflict; footed = false; gone = false }) olds-29.conns; row = Some (record { number = 1; on = None; counted = true; acked = 0; handled = 0; queue = 20 ∷ 21 ∷ [] }); sessions = alter (λ q s. lost_if (has (Some 1) q) (s.counted && (false && has (carries {A = ℕ} (record { client = (InOnline 1); phase = (AtSession 1); wires = Stop ([]) ([]) ([]) (Down (St 21) ∷ []); ending = Stands; footed = false; gone = false })) q)) s) olds-29.sessions }

olds-30-is : IsDetached 1 (Errs Conflict) olds-29 olds-30
olds-30-is = record { conn = record { client = (InOnline 1); phase = (AtSession 1); wires = Stop ([]) ([]) ([]) (Down (St 21) ∷ []); ending = Stands; footed = false; gone = false }; is = refl; row = record { number = 1; on = Some 1; counted = true; acked = 0; handled = 0; queue = 20 ∷ 21 ∷ [] }; is_row = refl; on = refl; counted = refl; reason = tt; gives = refl }

olds-30-reached : LinkReached olds-30
olds-30-reached = link_more (Detaches 1 (Errs Conflict)) olds-29 olds-30 olds-29-reached olds-30-is

abbrev pub olds-31 : View ℕ
olds-31 = record olds-30 { conns = with_at 3 (record { client = (InResume 1); phase = (AtSession 1); wires = Flow ([]) (Resumed 1 0 ∷ Down (St 21) ∷ []); ending = Stands; footed = false; gone = false }) olds-30.conns; row = Some (record { number = 1; on = Some 3; counted = true; acked = 1; handled = 0; queue = 21 ∷ [] }); sessions = alter (λ q s. resumed_if (has (Some 1) q) true s) olds-30.sessions }

olds-31-is : IsResumedHere 3 olds-30 olds-31
olds-31-is = record { conn = record { client = (InResume 1); phase = Ready; wires = Flow (ResumeAt 1 1 ∷ []) ([]); ending = Stands; footed = false; gone = false }; is = refl; rest = []; first = refl; here = refl; h = 1; row = record { number = 1; on = None; counted = true; acked = 0; handled = 0; queue = 20 ∷ 21 ∷ [] }; is_row = refl; off = refl; counted = refl; gives = refl }

olds-31-reached : LinkReached olds-31
olds-31-reached = link_more (TakesResume 3) olds-30 olds-31 olds-30-reached olds-31-is

abbrev pub olds-32 : View ℕ
olds-32 = record olds-31 { conns = with_at 3 (record { client = (InOnline 1); phase = (AtSession 1); wires = Flow ([]) (Down (St 21) ∷ []); ending = Stands; footed = false; gone = false }) olds-31.conns; own = Some (record { number = 1; acked = 0; handled = 1; queue = [] }); sessions = alter (λ q s. record s { up = record s.up { acked = if has (Some 1) q then length s.up.got else s.up.acked; way = if has (Some 1) q then (if true then drop (length s.up.got) s.up.put else []) else s.up.way; is_open = if has (Some 1) q then true else s.up.is_open } }) olds-31.sessions }

olds-32-is : IsReadResumed 3 olds-31 olds-32
olds-32-is = record { conn = record { client = (InResume 1); phase = (AtSession 1); wires = Flow ([]) (Resumed 1 0 ∷ Down (St 21) ∷ []); ending = Stands; footed = false; gone = false }; is = refl; here = refl; rest = Down (St 21) ∷ []; first = refl; client = refl; h = 0; own = record { number = 1; acked = 0; handled = 1; queue = [] }; is_own = refl; gives = refl }

olds-32-reached : LinkReached olds-32
olds-32-reached = link_more (ReadsResumed 3) olds-31 olds-32 olds-31-reached olds-32-is

abbrev pub olds-33 : View ℕ
olds-33 = record olds-32 { conns = with_at 3 (record { client = (InOnline 1); phase = (AtSession 1); wires = Flow ([]) ([]); ending = Stands; footed = false; gone = false }) olds-32.conns; own = Some (record { number = 1; acked = 0; handled = 2; queue = [] }); sessions = alter (λ q s. read_if (has (Some 1) q) 21 (down_stanzas {A = ℕ} ([])) s) olds-32.sessions }

olds-33-is : IsDownStanza 3 21 olds-32 olds-33
olds-33-is = record { conn = record { client = (InOnline 1); phase = (AtSession 1); wires = Flow ([]) (Down (St 21) ∷ []); ending = Stands; footed = false; gone = false }; is = refl; here = refl; rest = []; first = refl; client = refl; own = record { number = 1; acked = 0; handled = 1; queue = [] }; is_own = refl; gives = refl }

olds-33-reached : LinkReached olds-33
olds-33-reached = link_more (ReadsStanza 3 21) olds-32 olds-33 olds-32-reached olds-33-is

abbrev pub olds-34 : View ℕ
olds-34 = record olds-33 { conns = with_at 3 (record { client = (InOnline 1); phase = (AtSession 1); wires = Flow ([]) (Down Req ∷ []); ending = Stands; footed = false; gone = false }) olds-33.conns }

olds-34-is : IsServerRequest 3 olds-33 olds-34
olds-34-is = record { conn = record { client = (InOnline 1); phase = (AtSession 1); wires = Flow ([]) ([]); ending = Stands; footed = false; gone = false }; is = refl; row = record { number = 1; on = Some 3; counted = true; acked = 1; handled = 0; queue = 21 ∷ [] }; is_row = refl; on = refl; counted = refl; gives = refl }

olds-34-reached : LinkReached olds-34
olds-34-reached = link_more (Demands 3) olds-33 olds-34 olds-33-reached olds-34-is

abbrev pub olds-35 : View ℕ
olds-35 = record olds-34 { conns = with_at 3 (record { client = (InOnline 1); phase = (AtSession 1); wires = Flow (Up (Ack 2) ∷ []) ([]); ending = Stands; footed = false; gone = false }) olds-34.conns; sessions = alter (λ q s. told_if (has (Some 1) q) s) olds-34.sessions }

olds-35-is : IsDownRequest 3 olds-34 olds-35
olds-35-is = record { conn = record { client = (InOnline 1); phase = (AtSession 1); wires = Flow ([]) (Down Req ∷ []); ending = Stands; footed = false; gone = false }; is = refl; here = refl; rest = []; first = refl; client = refl; own = record { number = 1; acked = 0; handled = 2; queue = [] }; is_own = refl; gives = refl }

olds-35-reached : LinkReached olds-35
olds-35-reached = link_more (ReadsRequest 3) olds-34 olds-35 olds-34-reached olds-35-is

abbrev pub olds-36 : View ℕ
olds-36 = record olds-35 { conns = with_at 3 (record { client = (InOnline 1); phase = (AtSession 1); wires = Flow (Up (Ack 2) ∷ []) (Down (St 22) ∷ []); ending = Stands; footed = false; gone = false }) olds-35.conns; row = Some (record { number = 1; on = Some 3; counted = true; acked = 1; handled = 0; queue = 21 ∷ 22 ∷ [] }); sessions = alter (λ q s. record s { down = put_if (has (Some 1) q) 22 s.down }) olds-35.sessions }

olds-36-is : IsServerPut 3 22 olds-35 olds-36
olds-36-is = record { conn = record { client = (InOnline 1); phase = (AtSession 1); wires = Flow (Up (Ack 2) ∷ []) ([]); ending = Stands; footed = false; gone = false }; is = refl; row = record { number = 1; on = Some 3; counted = true; acked = 1; handled = 0; queue = 21 ∷ [] }; is_row = refl; on = refl; counted = refl; gives = refl }

olds-36-reached : LinkReached olds-36
olds-36-reached = link_more (Serves 3 22) olds-35 olds-36 olds-35-reached olds-36-is

abbrev pub olds-37 : View ℕ
olds-37 = record olds-36 { conns = with_at 3 (record { client = (InOnline 1); phase = (AtSession 1); wires = Stop ([]) (Down (St 22) ∷ Err Conflict ∷ End ∷ []) (Up (Ack 2) ∷ []) ([]); ending = Errs Conflict; footed = false; gone = false }) olds-36.conns; row = Some (record { number = 1; on = None; counted = true; acked = 1; handled = 0; queue = 21 ∷ 22 ∷ [] }); sessions = alter (λ q s. lost_if (has (Some 1) q) (s.counted && (true && has (carries {A = ℕ} (record { client = (InOnline 1); phase = (AtSession 1); wires = Flow (Up (Ack 2) ∷ []) (Down (St 22) ∷ []); ending = Stands; footed = false; gone = false })) q)) s) olds-36.sessions }

olds-37-is : IsDetached 3 (Errs Conflict) olds-36 olds-37
olds-37-is = record { conn = record { client = (InOnline 1); phase = (AtSession 1); wires = Flow (Up (Ack 2) ∷ []) (Down (St 22) ∷ []); ending = Stands; footed = false; gone = false }; is = refl; row = record { number = 1; on = Some 3; counted = true; acked = 1; handled = 0; queue = 21 ∷ 22 ∷ [] }; is_row = refl; on = refl; counted = refl; reason = tt; gives = refl }

olds-37-reached : LinkReached olds-37
olds-37-reached = link_more (Detaches 3 (Errs Conflict)) olds-36 olds-37 olds-36-reached olds-37-is

abbrev pub olds-38 : View ℕ
olds-38 = record olds-37 { conns = with_at 2 (record { client = (InResume 1); phase = (AtSession 1); wires = Stop ([]) ([]) ([]) (Resumed 1 0 ∷ Down (St 21) ∷ Down (St 22) ∷ []); ending = Stands; footed = false; gone = false }) olds-37.conns; row = Some (record { number = 1; on = Some 2; counted = true; acked = 1; handled = 0; queue = 21 ∷ 22 ∷ [] }); sessions = alter (λ q s. record s { up = record s.up { stated = if has (Some 1) q then s.up.stated ++ length s.up.got ∷ [] else s.up.stated }; down = record s.down { acked = if has (Some 1) q then 1 else s.down.acked } }) olds-37.sessions }

olds-38-is : IsResumedLate 2 olds-37 olds-38
olds-38-is = record { conn = record { client = (InResume 1); phase = Ready; wires = Stop (ResumeAt 1 1 ∷ []) ([]) ([]) ([]); ending = Stands; footed = false; gone = false }; is = refl; rest = []; first = refl; left = refl; low = omega arith; h = 1; row = record { number = 1; on = None; counted = true; acked = 1; handled = 0; queue = 21 ∷ 22 ∷ [] }; is_row = refl; off = refl; counted = refl; gives = refl }

olds-38-reached : LinkReached olds-38
olds-38-reached = link_more (TakesLateResume 2) olds-37 olds-38 olds-37-reached olds-38-is

abbrev pub olds-39 : View ℕ
olds-39 = record olds-38 { conns = with_at 3 (record { client = (InOnline 1); phase = (AtSession 1); wires = Stop ([]) (Err Conflict ∷ End ∷ []) (Up (Ack 2) ∷ []) ([]); ending = Errs Conflict; footed = false; gone = false }) olds-38.conns; own = Some (record { number = 1; acked = 0; handled = 3; queue = [] }); sessions = alter (λ q s. read_if (has (Some 1) q) 22 (down_stanzas {A = ℕ} (Err Conflict ∷ End ∷ [])) s) olds-38.sessions }

olds-39-is : IsDownStanza 3 22 olds-38 olds-39
olds-39-is = record { conn = record { client = (InOnline 1); phase = (AtSession 1); wires = Stop ([]) (Down (St 22) ∷ Err Conflict ∷ End ∷ []) (Up (Ack 2) ∷ []) ([]); ending = Errs Conflict; footed = false; gone = false }; is = refl; here = refl; rest = Err Conflict ∷ End ∷ []; first = refl; client = refl; own = record { number = 1; acked = 0; handled = 2; queue = [] }; is_own = refl; gives = refl }

olds-39-reached : LinkReached olds-39
olds-39-reached = link_more (ReadsStanza 3 22) olds-38 olds-39 olds-38-reached olds-39-is

pub handled_after_the_count : LinkReached olds-39 × (olds-39.sessions 1 ≡ Some (record { epoch = Some 1; counted = true; read = true; up = record beginning { is_open = false; stated = 0 ∷ 0 ∷ [] }; down = record { put = 20 ∷ 21 ∷ 22 ∷ []; acked = 1; got = 20 ∷ 21 ∷ 22 ∷ []; way = []; is_open = false; stated = 1 ∷ 1 ∷ 2 ∷ [] } }))
handled_after_the_count = (olds-39-reached, refl)

-- The client is told the end of connection 2, on which it asked to resume. Its word is taken behind that, with a count
-- that is the present one, and the session is parked there.
abbrev pub idle-0 : View ℕ
idle-0 = plain-15

idle-0-reached : LinkReached idle-0
idle-0-reached = record { moves = Dials 1 ∷ TakesHand 1 ∷ ReadsHand 1 ∷ ReadsHand 1 ∷ TakesHand 1 ∷ ReadsHand 1 ∷ TakesHand 1 ∷ ReadsHand 1 ∷ TakesHand 1 ∷ ReadsHand 1 ∷ AsksToBind 1 ∷ TakesBind 1 1 ∷ ReadsBound 1 1 ∷ TakesEnable 1 ∷ ReadsEnabled 1 1 ∷ []; reaches = (plain-1, plain-1-is, (plain-2, plain-2-is, (plain-3, plain-3-is, (plain-4, plain-4-is, (plain-5, plain-5-is, (plain-6, plain-6-is, (plain-7, plain-7-is, (plain-8, plain-8-is, (plain-9, plain-9-is, (plain-10, plain-10-is, (plain-11, plain-11-is, (plain-12, plain-12-is, (plain-13, plain-13-is, (plain-14, plain-14-is, (plain-15, plain-15-is, refl))))))))))))))) }

abbrev pub idle-1 : View ℕ
idle-1 = record idle-0 { conns = with_at 1 (record { client = (InOnline 1); phase = (AtSession 1); wires = Flow ([]) (Down (St 20) ∷ []); ending = Stands; footed = false; gone = false }) idle-0.conns; row = Some (record { number = 1; on = Some 1; counted = true; acked = 0; handled = 0; queue = 20 ∷ [] }); sessions = alter (λ q s. record s { down = put_if (has (Some 1) q) 20 s.down }) idle-0.sessions }

idle-1-is : IsServerPut 1 20 idle-0 idle-1
idle-1-is = record { conn = record { client = (InOnline 1); phase = (AtSession 1); wires = Flow ([]) ([]); ending = Stands; footed = false; gone = false }; is = refl; row = record { number = 1; on = Some 1; counted = true; acked = 0; handled = 0; queue = [] }; is_row = refl; on = refl; counted = refl; gives = refl }

idle-1-reached : LinkReached idle-1
idle-1-reached = link_more (Serves 1 20) idle-0 idle-1 idle-0-reached idle-1-is

abbrev pub idle-2 : View ℕ
idle-2 = record idle-1 { conns = with_at 1 (record { client = (InOnline 1); phase = (AtSession 1); wires = Flow ([]) ([]); ending = Stands; footed = false; gone = false }) idle-1.conns; own = Some (record { number = 1; acked = 0; handled = 1; queue = [] }); sessions = alter (λ q s. read_if (has (Some 1) q) 20 (down_stanzas {A = ℕ} ([])) s) idle-1.sessions }

idle-2-is : IsDownStanza 1 20 idle-1 idle-2
idle-2-is = record { conn = record { client = (InOnline 1); phase = (AtSession 1); wires = Flow ([]) (Down (St 20) ∷ []); ending = Stands; footed = false; gone = false }; is = refl; here = refl; rest = []; first = refl; client = refl; own = record { number = 1; acked = 0; handled = 0; queue = [] }; is_own = refl; gives = refl }

idle-2-reached : LinkReached idle-2
idle-2-reached = link_more (ReadsStanza 1 20) idle-1 idle-2 idle-1-reached idle-2-is

abbrev pub idle-3 : View ℕ
idle-3 = record idle-2 { conns = with_at 1 (record { client = (InOnline 1); phase = (AtSession 1); wires = Stop ([]) ([]) ([]) ([]); ending = Stands; footed = false; gone = false }) idle-2.conns; sessions = alter (ways_cut true (record { client = (InOnline 1); phase = (AtSession 1); wires = Flow ([]) ([]); ending = Stands; footed = false; gone = false }) 0 0) idle-2.sessions }

idle-3-is : IsCut 1 0 0 idle-2 idle-3
idle-3-is = record { conn = record { client = (InOnline 1); phase = (AtSession 1); wires = Flow ([]) ([]); ending = Stands; footed = false; gone = false }; is = refl; gives = refl }

idle-3-reached : LinkReached idle-3
idle-3-reached = link_more (Cuts 1 0 0) idle-2 idle-3 idle-2-reached idle-3-is

abbrev pub idle-4 : View ℕ
idle-4 = record idle-3 { here = None }

idle-4-is : IsLetGo 1 idle-3 idle-4
idle-4-is = record { conn = record { client = (InOnline 1); phase = (AtSession 1); wires = Stop ([]) ([]) ([]) ([]); ending = Stands; footed = false; gone = false }; here = refl; is = refl; ended = refl; empty = refl; gives = refl }

idle-4-reached : LinkReached idle-4
idle-4-reached = link_more (LetsGo 1) idle-3 idle-4 idle-3-reached idle-4-is

abbrev pub idle-5 : View ℕ
idle-5 = record idle-4 { here = Some 2; conns = with_at 2 (record { client = InHeader1; phase = Start; wires = Flow (Hdr ∷ []) ([]); ending = Stands; footed = false; gone = false }) idle-4.conns }

idle-5-is : IsDialled 2 idle-4 idle-5
idle-5-is = record { idle = refl; fresh = refl; gives = refl }

idle-5-reached : LinkReached idle-5
idle-5-reached = link_more (Dials 2) idle-4 idle-5 idle-4-reached idle-5-is

abbrev pub idle-6 : View ℕ
idle-6 = record idle-5 { conns = with_at 2 (record { client = InHeader1; phase = Sasl; wires = Flow ([]) (Head ∷ Feat ∷ []); ending = Stands; footed = false; gone = false }) idle-5.conns }

idle-6-is : IsUpHand 2 idle-5 idle-6
idle-6-is = record { conn = record { client = InHeader1; phase = Start; wires = Flow (Hdr ∷ []) ([]); ending = Stands; footed = false; gone = false }; is = refl; word = Hdr; rest = []; first = refl; phase = Sasl; puts = Head ∷ Feat ∷ []; hand = refl; gives = refl }

idle-6-reached : LinkReached idle-6
idle-6-reached = link_more (TakesHand 2) idle-5 idle-6 idle-5-reached idle-6-is

abbrev pub idle-7 : View ℕ
idle-7 = record idle-6 { conns = with_at 2 (record { client = InFeatures1; phase = Sasl; wires = Flow ([]) (Feat ∷ []); ending = Stands; footed = false; gone = false }) idle-6.conns }

idle-7-is : IsDownHand 2 idle-6 idle-7
idle-7-is = record { conn = record { client = InHeader1; phase = Sasl; wires = Flow ([]) (Head ∷ Feat ∷ []); ending = Stands; footed = false; gone = false }; is = refl; here = refl; word = Head; rest = Feat ∷ []; first = refl; early = tt; client = InFeatures1; puts = []; hand = refl; gives = refl }

idle-7-reached : LinkReached idle-7
idle-7-reached = link_more (ReadsHand 2) idle-6 idle-7 idle-6-reached idle-7-is

abbrev pub idle-8 : View ℕ
idle-8 = record idle-7 { conns = with_at 2 (record { client = InAuth; phase = Sasl; wires = Flow (Auth ∷ []) ([]); ending = Stands; footed = false; gone = false }) idle-7.conns }

idle-8-is : IsDownHand 2 idle-7 idle-8
idle-8-is = record { conn = record { client = InFeatures1; phase = Sasl; wires = Flow ([]) (Feat ∷ []); ending = Stands; footed = false; gone = false }; is = refl; here = refl; word = Feat; rest = []; first = refl; early = tt; client = InAuth; puts = Auth ∷ []; hand = refl; gives = refl }

idle-8-reached : LinkReached idle-8
idle-8-reached = link_more (ReadsHand 2) idle-7 idle-8 idle-7-reached idle-8-is

abbrev pub idle-9 : View ℕ
idle-9 = record idle-8 { conns = with_at 2 (record { client = InAuth; phase = Challenge; wires = Flow ([]) (Chal ∷ []); ending = Stands; footed = false; gone = false }) idle-8.conns }

idle-9-is : IsUpHand 2 idle-8 idle-9
idle-9-is = record { conn = record { client = InAuth; phase = Sasl; wires = Flow (Auth ∷ []) ([]); ending = Stands; footed = false; gone = false }; is = refl; word = Auth; rest = []; first = refl; phase = Challenge; puts = Chal ∷ []; hand = refl; gives = refl }

idle-9-reached : LinkReached idle-9
idle-9-reached = link_more (TakesHand 2) idle-8 idle-9 idle-8-reached idle-9-is

abbrev pub idle-10 : View ℕ
idle-10 = record idle-9 { conns = with_at 2 (record { client = InResponse; phase = Challenge; wires = Flow (Resp ∷ []) ([]); ending = Stands; footed = false; gone = false }) idle-9.conns }

idle-10-is : IsDownHand 2 idle-9 idle-10
idle-10-is = record { conn = record { client = InAuth; phase = Challenge; wires = Flow ([]) (Chal ∷ []); ending = Stands; footed = false; gone = false }; is = refl; here = refl; word = Chal; rest = []; first = refl; early = tt; client = InResponse; puts = Resp ∷ []; hand = refl; gives = refl }

idle-10-reached : LinkReached idle-10
idle-10-reached = link_more (ReadsHand 2) idle-9 idle-10 idle-9-reached idle-10-is

abbrev pub idle-11 : View ℕ
idle-11 = record idle-10 { conns = with_at 2 (record { client = InResponse; phase = Restart; wires = Flow ([]) (Succ ∷ []); ending = Stands; footed = false; gone = false }) idle-10.conns }

idle-11-is : IsUpHand 2 idle-10 idle-11
idle-11-is = record { conn = record { client = InResponse; phase = Challenge; wires = Flow (Resp ∷ []) ([]); ending = Stands; footed = false; gone = false }; is = refl; word = Resp; rest = []; first = refl; phase = Restart; puts = Succ ∷ []; hand = refl; gives = refl }

idle-11-reached : LinkReached idle-11
idle-11-reached = link_more (TakesHand 2) idle-10 idle-11 idle-10-reached idle-11-is

abbrev pub idle-12 : View ℕ
idle-12 = record idle-11 { conns = with_at 2 (record { client = InHeader2; phase = Restart; wires = Flow (Hdr ∷ []) ([]); ending = Stands; footed = false; gone = false }) idle-11.conns }

idle-12-is : IsDownHand 2 idle-11 idle-12
idle-12-is = record { conn = record { client = InResponse; phase = Restart; wires = Flow ([]) (Succ ∷ []); ending = Stands; footed = false; gone = false }; is = refl; here = refl; word = Succ; rest = []; first = refl; early = tt; client = InHeader2; puts = Hdr ∷ []; hand = refl; gives = refl }

idle-12-reached : LinkReached idle-12
idle-12-reached = link_more (ReadsHand 2) idle-11 idle-12 idle-11-reached idle-12-is

abbrev pub idle-13 : View ℕ
idle-13 = record idle-12 { conns = with_at 2 (record { client = InHeader2; phase = Ready; wires = Flow ([]) (Head ∷ Feat ∷ []); ending = Stands; footed = false; gone = false }) idle-12.conns }

idle-13-is : IsUpHand 2 idle-12 idle-13
idle-13-is = record { conn = record { client = InHeader2; phase = Restart; wires = Flow (Hdr ∷ []) ([]); ending = Stands; footed = false; gone = false }; is = refl; word = Hdr; rest = []; first = refl; phase = Ready; puts = Head ∷ Feat ∷ []; hand = refl; gives = refl }

idle-13-reached : LinkReached idle-13
idle-13-reached = link_more (TakesHand 2) idle-12 idle-13 idle-12-reached idle-13-is

abbrev pub idle-14 : View ℕ
idle-14 = record idle-13 { conns = with_at 2 (record { client = InFeatures2; phase = Ready; wires = Flow ([]) (Feat ∷ []); ending = Stands; footed = false; gone = false }) idle-13.conns }

idle-14-is : IsDownHand 2 idle-13 idle-14
idle-14-is = record { conn = record { client = InHeader2; phase = Ready; wires = Flow ([]) (Head ∷ Feat ∷ []); ending = Stands; footed = false; gone = false }; is = refl; here = refl; word = Head; rest = Feat ∷ []; first = refl; early = tt; client = InFeatures2; puts = []; hand = refl; gives = refl }

idle-14-reached : LinkReached idle-14
idle-14-reached = link_more (ReadsHand 2) idle-13 idle-14 idle-13-reached idle-14-is

abbrev pub idle-15 : View ℕ
idle-15 = record idle-14 { conns = with_at 2 (record { client = (InResume 1); phase = Ready; wires = Flow (ResumeAt 1 1 ∷ []) ([]); ending = Stands; footed = false; gone = false }) idle-14.conns; sessions = alter (λ q s. told_if (has (Some 1) q) s) idle-14.sessions }

idle-15-is : IsAskResume 2 idle-14 idle-15
idle-15-is = record { conn = record { client = InFeatures2; phase = Ready; wires = Flow ([]) (Feat ∷ []); ending = Stands; footed = false; gone = false }; is = refl; here = refl; rest = []; first = refl; client = refl; own = record { number = 1; acked = 0; handled = 1; queue = [] }; is_own = refl; gives = refl }

idle-15-reached : LinkReached idle-15
idle-15-reached = link_more (AsksToResume 2) idle-14 idle-15 idle-14-reached idle-15-is

abbrev pub idle-16 : View ℕ
idle-16 = record idle-15 { conns = with_at 2 (record { client = (InResume 1); phase = Ready; wires = Stop (ResumeAt 1 1 ∷ []) ([]) ([]) ([]); ending = Stands; footed = false; gone = false }) idle-15.conns; sessions = alter (ways_cut true (record { client = (InResume 1); phase = Ready; wires = Flow (ResumeAt 1 1 ∷ []) ([]); ending = Stands; footed = false; gone = false }) 1 0) idle-15.sessions }

idle-16-is : IsCut 2 1 0 idle-15 idle-16
idle-16-is = record { conn = record { client = (InResume 1); phase = Ready; wires = Flow (ResumeAt 1 1 ∷ []) ([]); ending = Stands; footed = false; gone = false }; is = refl; gives = refl }

idle-16-reached : LinkReached idle-16
idle-16-reached = link_more (Cuts 2 1 0) idle-15 idle-16 idle-15-reached idle-16-is

abbrev pub idle-17 : View ℕ
idle-17 = record idle-16 { here = None }

idle-17-is : IsLetGo 2 idle-16 idle-17
idle-17-is = record { conn = record { client = (InResume 1); phase = Ready; wires = Stop (ResumeAt 1 1 ∷ []) ([]) ([]) ([]); ending = Stands; footed = false; gone = false }; here = refl; is = refl; ended = refl; empty = refl; gives = refl }

idle-17-reached : LinkReached idle-17
idle-17-reached = link_more (LetsGo 2) idle-16 idle-17 idle-16-reached idle-17-is

abbrev pub idle-18 : View ℕ
idle-18 = record idle-17 { conns = with_at 1 (record { client = (InOnline 1); phase = (AtSession 1); wires = Stop ([]) ([]) ([]) (Err Conflict ∷ End ∷ []); ending = Errs Conflict; footed = false; gone = false }) idle-17.conns; row = Some (record { number = 1; on = None; counted = true; acked = 0; handled = 0; queue = 20 ∷ [] }); sessions = alter (λ q s. lost_if (has (Some 1) q) (s.counted && (false && has (carries {A = ℕ} (record { client = (InOnline 1); phase = (AtSession 1); wires = Stop ([]) ([]) ([]) ([]); ending = Stands; footed = false; gone = false })) q)) s) idle-17.sessions }

idle-18-is : IsDetached 1 (Errs Conflict) idle-17 idle-18
idle-18-is = record { conn = record { client = (InOnline 1); phase = (AtSession 1); wires = Stop ([]) ([]) ([]) ([]); ending = Stands; footed = false; gone = false }; is = refl; row = record { number = 1; on = Some 1; counted = true; acked = 0; handled = 0; queue = 20 ∷ [] }; is_row = refl; on = refl; counted = refl; reason = tt; gives = refl }

idle-18-reached : LinkReached idle-18
idle-18-reached = link_more (Detaches 1 (Errs Conflict)) idle-17 idle-18 idle-17-reached idle-18-is

abbrev pub idle-19 : View ℕ
idle-19 = record idle-18 { conns = with_at 2 (record { client = (InResume 1); phase = (AtSession 1); wires = Stop ([]) ([]) ([]) (Resumed 1 0 ∷ []); ending = Stands; footed = false; gone = false }) idle-18.conns; row = Some (record { number = 1; on = Some 2; counted = true; acked = 1; handled = 0; queue = [] }); sessions = alter (λ q s. record s { up = record s.up { stated = if has (Some 1) q then s.up.stated ++ length s.up.got ∷ [] else s.up.stated }; down = record s.down { acked = if has (Some 1) q then 1 else s.down.acked } }) idle-18.sessions }

idle-19-is : IsResumedLate 2 idle-18 idle-19
idle-19-is = record { conn = record { client = (InResume 1); phase = Ready; wires = Stop (ResumeAt 1 1 ∷ []) ([]) ([]) ([]); ending = Stands; footed = false; gone = false }; is = refl; rest = []; first = refl; left = refl; low = omega arith; h = 1; row = record { number = 1; on = None; counted = true; acked = 0; handled = 0; queue = 20 ∷ [] }; is_row = refl; off = refl; counted = refl; gives = refl }

idle-19-reached : LinkReached idle-19
idle-19-reached = link_more (TakesLateResume 2) idle-18 idle-19 idle-18-reached idle-19-is

abbrev pub idle-20 : View ℕ
idle-20 = record idle-19 { conns = with_at 2 (record { client = (InResume 1); phase = (AtSession 1); wires = Stop ([]) ([]) ([]) (Resumed 1 0 ∷ []); ending = Stands; footed = false; gone = true }) idle-19.conns; row = Some (record { number = 1; on = None; counted = true; acked = 1; handled = 0; queue = [] }) }

idle-20-is : IsParked 2 idle-19 idle-20
idle-20-is = record { conn = record { client = (InResume 1); phase = (AtSession 1); wires = Stop ([]) ([]) ([]) (Resumed 1 0 ∷ []); ending = Stands; footed = false; gone = false }; is = refl; ended = refl; empty = refl; row = record { number = 1; on = Some 2; counted = true; acked = 1; handled = 0; queue = [] }; is_row = refl; on = refl; counted = refl; gives = refl }

idle-20-reached : LinkReached idle-20
idle-20-reached = link_more (Parks 2) idle-19 idle-20 idle-19-reached idle-20-is

pub resumed_after_the_end : LinkReached idle-20 × (idle-20.sessions 1 ≡ Some (record { epoch = Some 1; counted = true; read = true; up = record beginning { is_open = false; stated = 0 ∷ [] }; down = record { put = 20 ∷ []; acked = 1; got = 20 ∷ []; way = []; is_open = false; stated = 1 ∷ [] } }))
resumed_after_the_end = (idle-20-reached, refl)
