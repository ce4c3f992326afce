-- A worked run, by computation, in which the client's queue is as long as it gets.
use Rattle.std.proofs.Common.{◌≡◌, ℕ, nat_eq, true, false, ◌&&◌, if◌then◌else◌, [], ◌∷◌, length, drop, refl, arith, None, Some}
use Rattle.sim_2_links.proofs.Hands.{no_entry}
use Rattle.sim_2_links.proofs.LinkRuns.{paging_more, may_ask, may_say, may_serve}
use Rattle.sim_2_links.proofs.Worked.{plain-1, plain-1-is, plain-2, plain-2-is, plain-3, plain-3-is, plain-4, plain-4-is, plain-5, plain-5-is, plain-6, plain-6-is, plain-7, plain-7-is, plain-8, plain-8-is, plain-9, plain-9-is, plain-10, plain-10-is, plain-11, plain-11-is, plain-12, plain-12-is, plain-13, plain-13-is, plain-14, plain-14-is, plain-15, plain-15-is}
use Rattle.sim_2_links.specs.Words.{St, Req, Ack, up_stanzas, down_stanzas, Hdr, Auth, Resp, ResumeAt, Up, Head, Feat, Chal, Succ, Resumed, Down, Err, End, Conflict, InHeader1, InFeatures1, InAuth, InResponse, InHeader2, InFeatures2, InResume, InOnline, Start, Sasl, Challenge, Restart, Ready, AtSession}
use Rattle.sim_2_links.specs.Wires.{Flow, Stop}
use Rattle.sim_2_links.specs.Stages.{Stands, Errs}
use Rattle.sim_2_links.specs.Views.{with_at, alter, has, View, carries}
use Rattle.sim_2_links.specs.LinkMoves.{ways_cut, IsCut, IsLetGo, IsDialled, IsUpHand, IsDownHand, handled_if, IsUpStanza, stated_if, IsUpRequest, read_if, IsDownStanza, told_if, heard_if, IsDownCount}
use Rattle.sim_2_links.specs.SessionMoves.{IsAskResume, lost_if, IsDetached, put_if, IsClientPut, resumed_if, IsResumedHere, IsReadResumed}
use Rattle.sim_2_links.specs.PutMoves.{IsClientQueued, IsClientRequest, IsServerPut}
use Rattle.sim_2_links.specs.Machine.{Cuts, Dials, LetsGo, Queues, ReadsHand, AsksToBind, AsksToResume, ReadsResumed, ReadsBound, ReadsEnabled, ReadsStanza, ReadsCount, TakesHand, TakesResume, TakesBind, TakesEnable, TakesStanza, TakesRequest, Detaches, Serves}
use Rattle.sim_2_links.specs.Covers.{Does, Says}
use Rattle.sim_2_links.specs.Paging.{Paging, PagingReached}

-- Stanza 1 asks for a page, and 2 ends one; one stanza of the user may wait.
abbrev pub one_waits : Paging ℕ
one_waits = record { asks = nat_eq 1; ends = nat_eq 2; most = 1 }

-- The client has its first page and a stanza of its user waiting, asks for the next page, is cut, and sends both again. The
-- page comes before the count, and it asks for a third one.
abbrev pub pages-0 : View ℕ
pages-0 = plain-15

pages-0-reached : PagingReached one_waits pages-0
pages-0-reached = record { moves = Does (Dials 1) ∷ Does (TakesHand 1) ∷ Does (ReadsHand 1) ∷ Does (ReadsHand 1) ∷ Does (TakesHand 1) ∷ Does (ReadsHand 1) ∷ Does (TakesHand 1) ∷ Does (ReadsHand 1) ∷ Does (TakesHand 1) ∷ Does (ReadsHand 1) ∷ Does (AsksToBind 1) ∷ Does (TakesBind 1 1) ∷ Does (ReadsBound 1 1) ∷ Does (TakesEnable 1) ∷ Does (ReadsEnabled 1 1) ∷ []; reaches = (plain-1, (tt, (tt, plain-1-is)), (plain-2, (tt, (tt, plain-2-is)), (plain-3, (tt, (tt, plain-3-is)), (plain-4, (tt, (tt, plain-4-is)), (plain-5, (tt, (tt, plain-5-is)), (plain-6, (tt, (tt, plain-6-is)), (plain-7, (tt, (tt, plain-7-is)), (plain-8, (tt, (tt, plain-8-is)), (plain-9, (tt, (tt, plain-9-is)), (plain-10, (tt, (tt, plain-10-is)), (plain-11, (tt, (tt, plain-11-is)), (plain-12, (tt, (tt, plain-12-is)), (plain-13, (tt, (tt, plain-13-is)), (plain-14, (tt, (tt, plain-14-is)), (plain-15, (tt, (tt, plain-15-is)), refl))))))))))))))) }

abbrev pub pages-1 : View ℕ
pages-1 = record pages-0 { conns = with_at 1 (record { client = (InOnline 1); phase = (AtSession 1); wires = Flow (Up (St 1) ∷ []) ([]); ending = Stands; footed = false; gone = false }) pages-0.conns; own = Some (record { number = 1; acked = 0; handled = 0; queue = 1 ∷ [] }); sessions = alter (λ q s. record s { up = put_if (has (Some 1) q) 1 s.up }) pages-0.sessions }

pages-1-is : IsClientPut 1 1 pages-0 pages-1
pages-1-is = record { conn = record { client = (InOnline 1); phase = (AtSession 1); wires = Flow ([]) ([]); ending = Stands; footed = false; gone = false }; is = refl; here = refl; own = record { number = 1; acked = 0; handled = 0; queue = [] }; is_own = refl; client = refl; gives = refl }

abbrev pub pages-2 : View ℕ
pages-2 = record pages-1 { conns = with_at 1 (record { client = (InOnline 1); phase = (AtSession 1); wires = Flow (Up (St 1) ∷ Up Req ∷ []) ([]); ending = Stands; footed = false; gone = false }) pages-1.conns }

pages-2-is : IsClientRequest 1 pages-1 pages-2
pages-2-is = record { conn = record { client = (InOnline 1); phase = (AtSession 1); wires = Flow (Up (St 1) ∷ []) ([]); ending = Stands; footed = false; gone = false }; is = refl; here = refl; own = record { number = 1; acked = 0; handled = 0; queue = 1 ∷ [] }; is_own = refl; client = refl; gives = refl }

pages-2-reached : PagingReached one_waits pages-2
pages-2-reached = paging_more one_waits (Says 1 1) pages-0 pages-2 pages-0-reached (may_ask one_waits pages-0 1 refl (record { number = 1; acked = 0; handled = 0; queue = [] }) (record { epoch = Some 1; counted = true; read = true; up = record { put = []; acked = 0; got = []; way = []; is_open = true; stated = [] }; down = record { put = []; acked = 0; got = []; way = []; is_open = true; stated = [] } }) refl refl (omega arith), (pages-1, pages-1-is, pages-2-is))

abbrev pub pages-3 : View ℕ
pages-3 = record pages-2 { conns = with_at 1 (record { client = (InOnline 1); phase = (AtSession 1); wires = Flow (Up Req ∷ []) ([]); ending = Stands; footed = false; gone = false }) pages-2.conns; row = Some (record { number = 1; on = Some 1; counted = true; acked = 0; handled = 1; queue = [] }); sessions = alter (λ q s. handled_if (has (Some 1) q) 1 (up_stanzas {A = ℕ} (Up Req ∷ [])) s) pages-2.sessions }

pages-3-is : IsUpStanza 1 1 pages-2 pages-3
pages-3-is = record { conn = record { client = (InOnline 1); phase = (AtSession 1); wires = Flow (Up (St 1) ∷ Up Req ∷ []) ([]); ending = Stands; footed = false; gone = false }; is = refl; rest = Up Req ∷ []; first = refl; row = record { number = 1; on = Some 1; counted = true; acked = 0; handled = 0; queue = [] }; is_row = refl; on = refl; counted = refl; gives = refl }

pages-3-reached : PagingReached one_waits pages-3
pages-3-reached = paging_more one_waits (Does (TakesStanza 1 1)) pages-2 pages-3 pages-2-reached (tt, (tt, pages-3-is))

abbrev pub pages-4 : View ℕ
pages-4 = record pages-3 { conns = with_at 1 (record { client = (InOnline 1); phase = (AtSession 1); wires = Flow ([]) (Down (Ack 1) ∷ []); ending = Stands; footed = false; gone = false }) pages-3.conns; sessions = alter (λ q s. stated_if (has (Some 1) q) s) pages-3.sessions }

pages-4-is : IsUpRequest 1 pages-3 pages-4
pages-4-is = record { conn = record { client = (InOnline 1); phase = (AtSession 1); wires = Flow (Up Req ∷ []) ([]); ending = Stands; footed = false; gone = false }; is = refl; rest = []; first = refl; row = record { number = 1; on = Some 1; counted = true; acked = 0; handled = 1; queue = [] }; is_row = refl; on = refl; counted = refl; gives = refl }

pages-4-reached : PagingReached one_waits pages-4
pages-4-reached = paging_more one_waits (Does (TakesRequest 1)) pages-3 pages-4 pages-3-reached (tt, (tt, pages-4-is))

abbrev pub pages-5 : View ℕ
pages-5 = record pages-4 { conns = with_at 1 (record { client = (InOnline 1); phase = (AtSession 1); wires = Flow ([]) (Down (Ack 1) ∷ Down (St 2) ∷ []); ending = Stands; footed = false; gone = false }) pages-4.conns; row = Some (record { number = 1; on = Some 1; counted = true; acked = 0; handled = 1; queue = 2 ∷ [] }); sessions = alter (λ q s. record s { down = put_if (has (Some 1) q) 2 s.down }) pages-4.sessions }

pages-5-is : IsServerPut 1 2 pages-4 pages-5
pages-5-is = record { conn = record { client = (InOnline 1); phase = (AtSession 1); wires = Flow ([]) (Down (Ack 1) ∷ []); ending = Stands; footed = false; gone = false }; is = refl; row = record { number = 1; on = Some 1; counted = true; acked = 0; handled = 1; queue = [] }; is_row = refl; on = refl; counted = refl; gives = refl }

pages-5-reached : PagingReached one_waits pages-5
pages-5-reached = paging_more one_waits (Does (Serves 1 2)) pages-4 pages-5 pages-4-reached (may_serve one_waits pages-4 2 (record { number = 1; on = Some 1; counted = true; acked = 0; handled = 1; queue = [] }) (record { epoch = Some 1; counted = true; read = true; up = record { put = 1 ∷ []; acked = 0; got = 1 ∷ []; way = []; is_open = true; stated = 1 ∷ [] }; down = record { put = []; acked = 0; got = []; way = []; is_open = true; stated = [] } }) refl refl (omega arith), (tt, pages-5-is))

abbrev pub pages-6 : View ℕ
pages-6 = record pages-5 { conns = with_at 1 (record { client = (InOnline 1); phase = (AtSession 1); wires = Flow ([]) (Down (St 2) ∷ []); ending = Stands; footed = false; gone = false }) pages-5.conns; own = Some (record { number = 1; acked = 1; handled = 0; queue = [] }); sessions = alter (λ q s. heard_if (has (Some 1) q) 1 s) pages-5.sessions }

pages-6-is : IsDownCount 1 1 pages-5 pages-6
pages-6-is = record { conn = record { client = (InOnline 1); phase = (AtSession 1); wires = Flow ([]) (Down (Ack 1) ∷ Down (St 2) ∷ []); ending = Stands; footed = false; gone = false }; is = refl; here = refl; rest = Down (St 2) ∷ []; first = refl; client = refl; own = record { number = 1; acked = 0; handled = 0; queue = 1 ∷ [] }; is_own = refl; gives = refl }

pages-6-reached : PagingReached one_waits pages-6
pages-6-reached = paging_more one_waits (Does (ReadsCount 1 1)) pages-5 pages-6 pages-5-reached (tt, (tt, pages-6-is))

abbrev pub pages-7 : View ℕ
pages-7 = record pages-6 { conns = with_at 1 (record { client = (InOnline 1); phase = (AtSession 1); wires = Stop ([]) ([]) ([]) (Down (St 2) ∷ []); ending = Stands; footed = false; gone = false }) pages-6.conns; sessions = alter (ways_cut true (record { client = (InOnline 1); phase = (AtSession 1); wires = Flow ([]) (Down (St 2) ∷ []); ending = Stands; footed = false; gone = false }) 0 0) pages-6.sessions }

pages-7-is : IsCut 1 0 0 pages-6 pages-7
pages-7-is = record { conn = record { client = (InOnline 1); phase = (AtSession 1); wires = Flow ([]) (Down (St 2) ∷ []); ending = Stands; footed = false; gone = false }; is = refl; gives = refl }

pages-7-reached : PagingReached one_waits pages-7
pages-7-reached = paging_more one_waits (Does (Cuts 1 0 0)) pages-6 pages-7 pages-6-reached (tt, (tt, pages-7-is))

abbrev pub pages-8 : View ℕ
pages-8 = record pages-7 { here = None }

pages-8-is : IsLetGo 1 pages-7 pages-8
pages-8-is = record { conn = record { client = (InOnline 1); phase = (AtSession 1); wires = Stop ([]) ([]) ([]) (Down (St 2) ∷ []); ending = Stands; footed = false; gone = false }; here = refl; is = refl; ended = refl; empty = refl; gives = refl }

pages-8-reached : PagingReached one_waits pages-8
pages-8-reached = paging_more one_waits (Does (LetsGo 1)) pages-7 pages-8 pages-7-reached (tt, (tt, pages-8-is))

abbrev pub pages-9 : View ℕ
pages-9 = record pages-8 { own = Some (record { number = 1; acked = 1; handled = 0; queue = 10 ∷ [] }); sessions = alter (λ q s. record s { up = put_if (has (Some 1) q) 10 s.up }) pages-8.sessions }

pages-9-is : IsClientQueued 10 pages-8 pages-9
pages-9-is = record { own = record { number = 1; acked = 1; handled = 0; queue = [] }; is_own = refl; away = λ k conn here is. no_entry k here; gives = refl }

pages-9-reached : PagingReached one_waits pages-9
pages-9-reached = paging_more one_waits (Does (Queues 10)) pages-8 pages-9 pages-8-reached (may_say one_waits pages-8 10 refl (record { number = 1; acked = 1; handled = 0; queue = [] }) refl (omega arith), (tt, pages-9-is))

abbrev pub pages-10 : View ℕ
pages-10 = record pages-9 { here = Some 2; conns = with_at 2 (record { client = InHeader1; phase = Start; wires = Flow (Hdr ∷ []) ([]); ending = Stands; footed = false; gone = false }) pages-9.conns }

pages-10-is : IsDialled 2 pages-9 pages-10
pages-10-is = record { idle = refl; fresh = refl; gives = refl }

pages-10-reached : PagingReached one_waits pages-10
pages-10-reached = paging_more one_waits (Does (Dials 2)) pages-9 pages-10 pages-9-reached (tt, (tt, pages-10-is))

abbrev pub pages-11 : View ℕ
pages-11 = record pages-10 { conns = with_at 2 (record { client = InHeader1; phase = Sasl; wires = Flow ([]) (Head ∷ Feat ∷ []); ending = Stands; footed = false; gone = false }) pages-10.conns }

pages-11-is : IsUpHand 2 pages-10 pages-11
pages-11-is = record { conn = record { client = InHeader1; phase = Start; wires = Flow (Hdr ∷ []) ([]); ending = Stands; footed = false; gone = false }; is = refl; word = Hdr; rest = []; first = refl; phase = Sasl; puts = Head ∷ Feat ∷ []; hand = refl; gives = refl }

pages-11-reached : PagingReached one_waits pages-11
pages-11-reached = paging_more one_waits (Does (TakesHand 2)) pages-10 pages-11 pages-10-reached (tt, (tt, pages-11-is))

abbrev pub pages-12 : View ℕ
pages-12 = record pages-11 { conns = with_at 2 (record { client = InFeatures1; phase = Sasl; wires = Flow ([]) (Feat ∷ []); ending = Stands; footed = false; gone = false }) pages-11.conns }

pages-12-is : IsDownHand 2 pages-11 pages-12
pages-12-is = record { conn = record { client = InHeader1; phase = Sasl; wires = Flow ([]) (Head ∷ Feat ∷ []); ending = Stands; footed = false; gone = false }; is = refl; here = refl; word = Head; rest = Feat ∷ []; first = refl; early = tt; client = InFeatures1; puts = []; hand = refl; gives = refl }

pages-12-reached : PagingReached one_waits pages-12
pages-12-reached = paging_more one_waits (Does (ReadsHand 2)) pages-11 pages-12 pages-11-reached (tt, (tt, pages-12-is))

abbrev pub pages-13 : View ℕ
pages-13 = record pages-12 { conns = with_at 2 (record { client = InAuth; phase = Sasl; wires = Flow (Auth ∷ []) ([]); ending = Stands; footed = false; gone = false }) pages-12.conns }

pages-13-is : IsDownHand 2 pages-12 pages-13
pages-13-is = record { conn = record { client = InFeatures1; phase = Sasl; wires = Flow ([]) (Feat ∷ []); ending = Stands; footed = false; gone = false }; is = refl; here = refl; word = Feat; rest = []; first = refl; early = tt; client = InAuth; puts = Auth ∷ []; hand = refl; gives = refl }

pages-13-reached : PagingReached one_waits pages-13
pages-13-reached = paging_more one_waits (Does (ReadsHand 2)) pages-12 pages-13 pages-12-reached (tt, (tt, pages-13-is))

abbrev pub pages-14 : View ℕ
pages-14 = record pages-13 { conns = with_at 2 (record { client = InAuth; phase = Challenge; wires = Flow ([]) (Chal ∷ []); ending = Stands; footed = false; gone = false }) pages-13.conns }

pages-14-is : IsUpHand 2 pages-13 pages-14
pages-14-is = record { conn = record { client = InAuth; phase = Sasl; wires = Flow (Auth ∷ []) ([]); ending = Stands; footed = false; gone = false }; is = refl; word = Auth; rest = []; first = refl; phase = Challenge; puts = Chal ∷ []; hand = refl; gives = refl }

pages-14-reached : PagingReached one_waits pages-14
pages-14-reached = paging_more one_waits (Does (TakesHand 2)) pages-13 pages-14 pages-13-reached (tt, (tt, pages-14-is))

abbrev pub pages-15 : View ℕ
pages-15 = record pages-14 { conns = with_at 2 (record { client = InResponse; phase = Challenge; wires = Flow (Resp ∷ []) ([]); ending = Stands; footed = false; gone = false }) pages-14.conns }

pages-15-is : IsDownHand 2 pages-14 pages-15
pages-15-is = record { conn = record { client = InAuth; phase = Challenge; wires = Flow ([]) (Chal ∷ []); ending = Stands; footed = false; gone = false }; is = refl; here = refl; word = Chal; rest = []; first = refl; early = tt; client = InResponse; puts = Resp ∷ []; hand = refl; gives = refl }

pages-15-reached : PagingReached one_waits pages-15
pages-15-reached = paging_more one_waits (Does (ReadsHand 2)) pages-14 pages-15 pages-14-reached (tt, (tt, pages-15-is))

abbrev pub pages-16 : View ℕ
pages-16 = record pages-15 { conns = with_at 2 (record { client = InResponse; phase = Restart; wires = Flow ([]) (Succ ∷ []); ending = Stands; footed = false; gone = false }) pages-15.conns }

pages-16-is : IsUpHand 2 pages-15 pages-16
pages-16-is = record { conn = record { client = InResponse; phase = Challenge; wires = Flow (Resp ∷ []) ([]); ending = Stands; footed = false; gone = false }; is = refl; word = Resp; rest = []; first = refl; phase = Restart; puts = Succ ∷ []; hand = refl; gives = refl }

pages-16-reached : PagingReached one_waits pages-16
pages-16-reached = paging_more one_waits (Does (TakesHand 2)) pages-15 pages-16 pages-15-reached (tt, (tt, pages-16-is))

abbrev pub pages-17 : View ℕ
pages-17 = record pages-16 { conns = with_at 2 (record { client = InHeader2; phase = Restart; wires = Flow (Hdr ∷ []) ([]); ending = Stands; footed = false; gone = false }) pages-16.conns }

pages-17-is : IsDownHand 2 pages-16 pages-17
pages-17-is = record { conn = record { client = InResponse; phase = Restart; wires = Flow ([]) (Succ ∷ []); ending = Stands; footed = false; gone = false }; is = refl; here = refl; word = Succ; rest = []; first = refl; early = tt; client = InHeader2; puts = Hdr ∷ []; hand = refl; gives = refl }

pages-17-reached : PagingReached one_waits pages-17
pages-17-reached = paging_more one_waits (Does (ReadsHand 2)) pages-16 pages-17 pages-16-reached (tt, (tt, pages-17-is))

abbrev pub pages-18 : View ℕ
pages-18 = record pages-17 { conns = with_at 2 (record { client = InHeader2; phase = Ready; wires = Flow ([]) (Head ∷ Feat ∷ []); ending = Stands; footed = false; gone = false }) pages-17.conns }

pages-18-is : IsUpHand 2 pages-17 pages-18
pages-18-is = record { conn = record { client = InHeader2; phase = Restart; wires = Flow (Hdr ∷ []) ([]); ending = Stands; footed = false; gone = false }; is = refl; word = Hdr; rest = []; first = refl; phase = Ready; puts = Head ∷ Feat ∷ []; hand = refl; gives = refl }

pages-18-reached : PagingReached one_waits pages-18
pages-18-reached = paging_more one_waits (Does (TakesHand 2)) pages-17 pages-18 pages-17-reached (tt, (tt, pages-18-is))

abbrev pub pages-19 : View ℕ
pages-19 = record pages-18 { conns = with_at 2 (record { client = InFeatures2; phase = Ready; wires = Flow ([]) (Feat ∷ []); ending = Stands; footed = false; gone = false }) pages-18.conns }

pages-19-is : IsDownHand 2 pages-18 pages-19
pages-19-is = record { conn = record { client = InHeader2; phase = Ready; wires = Flow ([]) (Head ∷ Feat ∷ []); ending = Stands; footed = false; gone = false }; is = refl; here = refl; word = Head; rest = Feat ∷ []; first = refl; early = tt; client = InFeatures2; puts = []; hand = refl; gives = refl }

pages-19-reached : PagingReached one_waits pages-19
pages-19-reached = paging_more one_waits (Does (ReadsHand 2)) pages-18 pages-19 pages-18-reached (tt, (tt, pages-19-is))

abbrev pub pages-20 : View ℕ
pages-20 = record pages-19 { conns = with_at 2 (record { client = (InResume 1); phase = Ready; wires = Flow (ResumeAt 1 0 ∷ []) ([]); ending = Stands; footed = false; gone = false }) pages-19.conns; sessions = alter (λ q s. told_if (has (Some 1) q) s) pages-19.sessions }

pages-20-is : IsAskResume 2 pages-19 pages-20
pages-20-is = record { conn = record { client = InFeatures2; phase = Ready; wires = Flow ([]) (Feat ∷ []); ending = Stands; footed = false; gone = false }; is = refl; here = refl; rest = []; first = refl; client = refl; own = record { number = 1; acked = 1; handled = 0; queue = 10 ∷ [] }; is_own = refl; gives = refl }

pages-20-reached : PagingReached one_waits pages-20
pages-20-reached = paging_more one_waits (Does (AsksToResume 2)) pages-19 pages-20 pages-19-reached (tt, (tt, pages-20-is))

abbrev pub pages-21 : View ℕ
pages-21 = record pages-20 { conns = with_at 1 (record { client = (InOnline 1); phase = (AtSession 1); wires = Stop ([]) ([]) ([]) (Down (St 2) ∷ Err Conflict ∷ End ∷ []); ending = Errs Conflict; footed = false; gone = false }) pages-20.conns; row = Some (record { number = 1; on = None; counted = true; acked = 0; handled = 1; queue = 2 ∷ [] }); sessions = alter (λ q s. lost_if (has (Some 1) q) (s.counted && (false && has (carries {A = ℕ} (record { client = (InOnline 1); phase = (AtSession 1); wires = Stop ([]) ([]) ([]) (Down (St 2) ∷ []); ending = Stands; footed = false; gone = false })) q)) s) pages-20.sessions }

pages-21-is : IsDetached 1 (Errs Conflict) pages-20 pages-21
pages-21-is = record { conn = record { client = (InOnline 1); phase = (AtSession 1); wires = Stop ([]) ([]) ([]) (Down (St 2) ∷ []); ending = Stands; footed = false; gone = false }; is = refl; row = record { number = 1; on = Some 1; counted = true; acked = 0; handled = 1; queue = 2 ∷ [] }; is_row = refl; on = refl; counted = refl; reason = tt; gives = refl }

pages-21-reached : PagingReached one_waits pages-21
pages-21-reached = paging_more one_waits (Does (Detaches 1 (Errs Conflict))) pages-20 pages-21 pages-20-reached (tt, (tt, pages-21-is))

abbrev pub pages-22 : View ℕ
pages-22 = record pages-21 { conns = with_at 2 (record { client = (InResume 1); phase = (AtSession 1); wires = Flow ([]) (Resumed 1 1 ∷ Down (St 2) ∷ []); ending = Stands; footed = false; gone = false }) pages-21.conns; row = Some (record { number = 1; on = Some 2; counted = true; acked = 0; handled = 1; queue = 2 ∷ [] }); sessions = alter (λ q s. resumed_if (has (Some 1) q) true s) pages-21.sessions }

pages-22-is : IsResumedHere 2 pages-21 pages-22
pages-22-is = record { conn = record { client = (InResume 1); phase = Ready; wires = Flow (ResumeAt 1 0 ∷ []) ([]); ending = Stands; footed = false; gone = false }; is = refl; rest = []; first = refl; here = refl; h = 0; row = record { number = 1; on = None; counted = true; acked = 0; handled = 1; queue = 2 ∷ [] }; is_row = refl; off = refl; counted = refl; gives = refl }

pages-22-reached : PagingReached one_waits pages-22
pages-22-reached = paging_more one_waits (Does (TakesResume 2)) pages-21 pages-22 pages-21-reached (tt, (tt, pages-22-is))

abbrev pub pages-23 : View ℕ
pages-23 = record pages-22 { conns = with_at 2 (record { client = (InOnline 1); phase = (AtSession 1); wires = Flow (Up (St 10) ∷ Up Req ∷ []) (Down (St 2) ∷ []); ending = Stands; footed = false; gone = false }) pages-22.conns; own = Some (record { number = 1; acked = 1; handled = 0; queue = 10 ∷ [] }); sessions = alter (λ q s. record s { up = record s.up { acked = if has (Some 1) q then length s.up.got else s.up.acked; way = if has (Some 1) q then (if true then drop (length s.up.got) s.up.put else []) else s.up.way; is_open = if has (Some 1) q then true else s.up.is_open } }) pages-22.sessions }

pages-23-is : IsReadResumed 2 pages-22 pages-23
pages-23-is = record { conn = record { client = (InResume 1); phase = (AtSession 1); wires = Flow ([]) (Resumed 1 1 ∷ Down (St 2) ∷ []); ending = Stands; footed = false; gone = false }; is = refl; here = refl; rest = Down (St 2) ∷ []; first = refl; client = refl; h = 1; own = record { number = 1; acked = 1; handled = 0; queue = 10 ∷ [] }; is_own = refl; gives = refl }

pages-23-reached : PagingReached one_waits pages-23
pages-23-reached = paging_more one_waits (Does (ReadsResumed 2)) pages-22 pages-23 pages-22-reached (tt, (tt, pages-23-is))

abbrev pub pages-24 : View ℕ
pages-24 = record pages-23 { conns = with_at 2 (record { client = (InOnline 1); phase = (AtSession 1); wires = Flow (Up (St 10) ∷ Up Req ∷ []) ([]); ending = Stands; footed = false; gone = false }) pages-23.conns; own = Some (record { number = 1; acked = 1; handled = 1; queue = 10 ∷ [] }); sessions = alter (λ q s. read_if (has (Some 1) q) 2 (down_stanzas {A = ℕ} ([])) s) pages-23.sessions }

pages-24-is : IsDownStanza 2 2 pages-23 pages-24
pages-24-is = record { conn = record { client = (InOnline 1); phase = (AtSession 1); wires = Flow (Up (St 10) ∷ Up Req ∷ []) (Down (St 2) ∷ []); ending = Stands; footed = false; gone = false }; is = refl; here = refl; rest = []; first = refl; client = refl; own = record { number = 1; acked = 1; handled = 0; queue = 10 ∷ [] }; is_own = refl; gives = refl }

pages-24-reached : PagingReached one_waits pages-24
pages-24-reached = paging_more one_waits (Does (ReadsStanza 2 2)) pages-23 pages-24 pages-23-reached (tt, (tt, pages-24-is))

abbrev pub pages-25 : View ℕ
pages-25 = record pages-24 { conns = with_at 2 (record { client = (InOnline 1); phase = (AtSession 1); wires = Flow (Up (St 10) ∷ Up Req ∷ Up (St 1) ∷ []) ([]); ending = Stands; footed = false; gone = false }) pages-24.conns; own = Some (record { number = 1; acked = 1; handled = 1; queue = 10 ∷ 1 ∷ [] }); sessions = alter (λ q s. record s { up = put_if (has (Some 1) q) 1 s.up }) pages-24.sessions }

pages-25-is : IsClientPut 2 1 pages-24 pages-25
pages-25-is = record { conn = record { client = (InOnline 1); phase = (AtSession 1); wires = Flow (Up (St 10) ∷ Up Req ∷ []) ([]); ending = Stands; footed = false; gone = false }; is = refl; here = refl; own = record { number = 1; acked = 1; handled = 1; queue = 10 ∷ [] }; is_own = refl; client = refl; gives = refl }

abbrev pub pages-26 : View ℕ
pages-26 = record pages-25 { conns = with_at 2 (record { client = (InOnline 1); phase = (AtSession 1); wires = Flow (Up (St 10) ∷ Up Req ∷ Up (St 1) ∷ Up Req ∷ []) ([]); ending = Stands; footed = false; gone = false }) pages-25.conns }

pages-26-is : IsClientRequest 2 pages-25 pages-26
pages-26-is = record { conn = record { client = (InOnline 1); phase = (AtSession 1); wires = Flow (Up (St 10) ∷ Up Req ∷ Up (St 1) ∷ []) ([]); ending = Stands; footed = false; gone = false }; is = refl; here = refl; own = record { number = 1; acked = 1; handled = 1; queue = 10 ∷ 1 ∷ [] }; is_own = refl; client = refl; gives = refl }

pages-26-reached : PagingReached one_waits pages-26
pages-26-reached = paging_more one_waits (Says 2 1) pages-24 pages-26 pages-24-reached (may_ask one_waits pages-24 1 refl (record { number = 1; acked = 1; handled = 1; queue = 10 ∷ [] }) (record { epoch = Some 1; counted = true; read = true; up = record { put = 1 ∷ 10 ∷ []; acked = 1; got = 1 ∷ []; way = 10 ∷ []; is_open = true; stated = 1 ∷ 1 ∷ [] }; down = record { put = 2 ∷ []; acked = 0; got = 2 ∷ []; way = []; is_open = true; stated = 0 ∷ [] } }) refl refl (omega arith), (pages-25, pages-25-is, pages-26-is))

abbrev pub pages-27 : View ℕ
pages-27 = record pages-26 { conns = with_at 2 (record { client = (InOnline 1); phase = (AtSession 1); wires = Stop ([]) ([]) (Up (St 10) ∷ Up Req ∷ Up (St 1) ∷ Up Req ∷ []) ([]); ending = Stands; footed = false; gone = false }) pages-26.conns; sessions = alter (ways_cut true (record { client = (InOnline 1); phase = (AtSession 1); wires = Flow (Up (St 10) ∷ Up Req ∷ Up (St 1) ∷ Up Req ∷ []) ([]); ending = Stands; footed = false; gone = false }) 0 0) pages-26.sessions }

pages-27-is : IsCut 2 0 0 pages-26 pages-27
pages-27-is = record { conn = record { client = (InOnline 1); phase = (AtSession 1); wires = Flow (Up (St 10) ∷ Up Req ∷ Up (St 1) ∷ Up Req ∷ []) ([]); ending = Stands; footed = false; gone = false }; is = refl; gives = refl }

pages-27-reached : PagingReached one_waits pages-27
pages-27-reached = paging_more one_waits (Does (Cuts 2 0 0)) pages-26 pages-27 pages-26-reached (tt, (tt, pages-27-is))

abbrev pub pages-28 : View ℕ
pages-28 = record pages-27 { here = None }

pages-28-is : IsLetGo 2 pages-27 pages-28
pages-28-is = record { conn = record { client = (InOnline 1); phase = (AtSession 1); wires = Stop ([]) ([]) (Up (St 10) ∷ Up Req ∷ Up (St 1) ∷ Up Req ∷ []) ([]); ending = Stands; footed = false; gone = false }; here = refl; is = refl; ended = refl; empty = refl; gives = refl }

pages-28-reached : PagingReached one_waits pages-28
pages-28-reached = paging_more one_waits (Does (LetsGo 2)) pages-27 pages-28 pages-27-reached (tt, (tt, pages-28-is))

abbrev pub pages-29 : View ℕ
pages-29 = record pages-28 { here = Some 3; conns = with_at 3 (record { client = InHeader1; phase = Start; wires = Flow (Hdr ∷ []) ([]); ending = Stands; footed = false; gone = false }) pages-28.conns }

pages-29-is : IsDialled 3 pages-28 pages-29
pages-29-is = record { idle = refl; fresh = refl; gives = refl }

pages-29-reached : PagingReached one_waits pages-29
pages-29-reached = paging_more one_waits (Does (Dials 3)) pages-28 pages-29 pages-28-reached (tt, (tt, pages-29-is))

abbrev pub pages-30 : View ℕ
pages-30 = record pages-29 { conns = with_at 3 (record { client = InHeader1; phase = Sasl; wires = Flow ([]) (Head ∷ Feat ∷ []); ending = Stands; footed = false; gone = false }) pages-29.conns }

pages-30-is : IsUpHand 3 pages-29 pages-30
pages-30-is = record { conn = record { client = InHeader1; phase = Start; wires = Flow (Hdr ∷ []) ([]); ending = Stands; footed = false; gone = false }; is = refl; word = Hdr; rest = []; first = refl; phase = Sasl; puts = Head ∷ Feat ∷ []; hand = refl; gives = refl }

pages-30-reached : PagingReached one_waits pages-30
pages-30-reached = paging_more one_waits (Does (TakesHand 3)) pages-29 pages-30 pages-29-reached (tt, (tt, pages-30-is))

abbrev pub pages-31 : View ℕ
pages-31 = record pages-30 { conns = with_at 3 (record { client = InFeatures1; phase = Sasl; wires = Flow ([]) (Feat ∷ []); ending = Stands; footed = false; gone = false }) pages-30.conns }

pages-31-is : IsDownHand 3 pages-30 pages-31
pages-31-is = record { conn = record { client = InHeader1; phase = Sasl; wires = Flow ([]) (Head ∷ Feat ∷ []); ending = Stands; footed = false; gone = false }; is = refl; here = refl; word = Head; rest = Feat ∷ []; first = refl; early = tt; client = InFeatures1; puts = []; hand = refl; gives = refl }

pages-31-reached : PagingReached one_waits pages-31
pages-31-reached = paging_more one_waits (Does (ReadsHand 3)) pages-30 pages-31 pages-30-reached (tt, (tt, pages-31-is))

abbrev pub pages-32 : View ℕ
pages-32 = record pages-31 { conns = with_at 3 (record { client = InAuth; phase = Sasl; wires = Flow (Auth ∷ []) ([]); ending = Stands; footed = false; gone = false }) pages-31.conns }

pages-32-is : IsDownHand 3 pages-31 pages-32
pages-32-is = record { conn = record { client = InFeatures1; phase = Sasl; wires = Flow ([]) (Feat ∷ []); ending = Stands; footed = false; gone = false }; is = refl; here = refl; word = Feat; rest = []; first = refl; early = tt; client = InAuth; puts = Auth ∷ []; hand = refl; gives = refl }

pages-32-reached : PagingReached one_waits pages-32
pages-32-reached = paging_more one_waits (Does (ReadsHand 3)) pages-31 pages-32 pages-31-reached (tt, (tt, pages-32-is))

abbrev pub pages-33 : View ℕ
pages-33 = record pages-32 { conns = with_at 3 (record { client = InAuth; phase = Challenge; wires = Flow ([]) (Chal ∷ []); ending = Stands; footed = false; gone = false }) pages-32.conns }

pages-33-is : IsUpHand 3 pages-32 pages-33
pages-33-is = record { conn = record { client = InAuth; phase = Sasl; wires = Flow (Auth ∷ []) ([]); ending = Stands; footed = false; gone = false }; is = refl; word = Auth; rest = []; first = refl; phase = Challenge; puts = Chal ∷ []; hand = refl; gives = refl }

pages-33-reached : PagingReached one_waits pages-33
pages-33-reached = paging_more one_waits (Does (TakesHand 3)) pages-32 pages-33 pages-32-reached (tt, (tt, pages-33-is))

abbrev pub pages-34 : View ℕ
pages-34 = record pages-33 { conns = with_at 3 (record { client = InResponse; phase = Challenge; wires = Flow (Resp ∷ []) ([]); ending = Stands; footed = false; gone = false }) pages-33.conns }

pages-34-is : IsDownHand 3 pages-33 pages-34
pages-34-is = record { conn = record { client = InAuth; phase = Challenge; wires = Flow ([]) (Chal ∷ []); ending = Stands; footed = false; gone = false }; is = refl; here = refl; word = Chal; rest = []; first = refl; early = tt; client = InResponse; puts = Resp ∷ []; hand = refl; gives = refl }

pages-34-reached : PagingReached one_waits pages-34
pages-34-reached = paging_more one_waits (Does (ReadsHand 3)) pages-33 pages-34 pages-33-reached (tt, (tt, pages-34-is))

abbrev pub pages-35 : View ℕ
pages-35 = record pages-34 { conns = with_at 3 (record { client = InResponse; phase = Restart; wires = Flow ([]) (Succ ∷ []); ending = Stands; footed = false; gone = false }) pages-34.conns }

pages-35-is : IsUpHand 3 pages-34 pages-35
pages-35-is = record { conn = record { client = InResponse; phase = Challenge; wires = Flow (Resp ∷ []) ([]); ending = Stands; footed = false; gone = false }; is = refl; word = Resp; rest = []; first = refl; phase = Restart; puts = Succ ∷ []; hand = refl; gives = refl }

pages-35-reached : PagingReached one_waits pages-35
pages-35-reached = paging_more one_waits (Does (TakesHand 3)) pages-34 pages-35 pages-34-reached (tt, (tt, pages-35-is))

abbrev pub pages-36 : View ℕ
pages-36 = record pages-35 { conns = with_at 3 (record { client = InHeader2; phase = Restart; wires = Flow (Hdr ∷ []) ([]); ending = Stands; footed = false; gone = false }) pages-35.conns }

pages-36-is : IsDownHand 3 pages-35 pages-36
pages-36-is = record { conn = record { client = InResponse; phase = Restart; wires = Flow ([]) (Succ ∷ []); ending = Stands; footed = false; gone = false }; is = refl; here = refl; word = Succ; rest = []; first = refl; early = tt; client = InHeader2; puts = Hdr ∷ []; hand = refl; gives = refl }

pages-36-reached : PagingReached one_waits pages-36
pages-36-reached = paging_more one_waits (Does (ReadsHand 3)) pages-35 pages-36 pages-35-reached (tt, (tt, pages-36-is))

abbrev pub pages-37 : View ℕ
pages-37 = record pages-36 { conns = with_at 3 (record { client = InHeader2; phase = Ready; wires = Flow ([]) (Head ∷ Feat ∷ []); ending = Stands; footed = false; gone = false }) pages-36.conns }

pages-37-is : IsUpHand 3 pages-36 pages-37
pages-37-is = record { conn = record { client = InHeader2; phase = Restart; wires = Flow (Hdr ∷ []) ([]); ending = Stands; footed = false; gone = false }; is = refl; word = Hdr; rest = []; first = refl; phase = Ready; puts = Head ∷ Feat ∷ []; hand = refl; gives = refl }

pages-37-reached : PagingReached one_waits pages-37
pages-37-reached = paging_more one_waits (Does (TakesHand 3)) pages-36 pages-37 pages-36-reached (tt, (tt, pages-37-is))

abbrev pub pages-38 : View ℕ
pages-38 = record pages-37 { conns = with_at 3 (record { client = InFeatures2; phase = Ready; wires = Flow ([]) (Feat ∷ []); ending = Stands; footed = false; gone = false }) pages-37.conns }

pages-38-is : IsDownHand 3 pages-37 pages-38
pages-38-is = record { conn = record { client = InHeader2; phase = Ready; wires = Flow ([]) (Head ∷ Feat ∷ []); ending = Stands; footed = false; gone = false }; is = refl; here = refl; word = Head; rest = Feat ∷ []; first = refl; early = tt; client = InFeatures2; puts = []; hand = refl; gives = refl }

pages-38-reached : PagingReached one_waits pages-38
pages-38-reached = paging_more one_waits (Does (ReadsHand 3)) pages-37 pages-38 pages-37-reached (tt, (tt, pages-38-is))

abbrev pub pages-39 : View ℕ
pages-39 = record pages-38 { conns = with_at 3 (record { client = (InResume 1); phase = Ready; wires = Flow (ResumeAt 1 1 ∷ []) ([]); ending = Stands; footed = false; gone = false }) pages-38.conns; sessions = alter (λ q s. told_if (has (Some 1) q) s) pages-38.sessions }

pages-39-is : IsAskResume 3 pages-38 pages-39
pages-39-is = record { conn = record { client = InFeatures2; phase = Ready; wires = Flow ([]) (Feat ∷ []); ending = Stands; footed = false; gone = false }; is = refl; here = refl; rest = []; first = refl; client = refl; own = record { number = 1; acked = 1; handled = 1; queue = 10 ∷ 1 ∷ [] }; is_own = refl; gives = refl }

pages-39-reached : PagingReached one_waits pages-39
pages-39-reached = paging_more one_waits (Does (AsksToResume 3)) pages-38 pages-39 pages-38-reached (tt, (tt, pages-39-is))

abbrev pub pages-40 : View ℕ
pages-40 = record pages-39 { conns = with_at 2 (record { client = (InOnline 1); phase = (AtSession 1); wires = Stop ([]) ([]) (Up (St 10) ∷ Up Req ∷ Up (St 1) ∷ Up Req ∷ []) (Err Conflict ∷ End ∷ []); ending = Errs Conflict; footed = false; gone = false }) pages-39.conns; row = Some (record { number = 1; on = None; counted = true; acked = 0; handled = 1; queue = 2 ∷ [] }); sessions = alter (λ q s. lost_if (has (Some 1) q) (s.counted && (false && has (carries {A = ℕ} (record { client = (InOnline 1); phase = (AtSession 1); wires = Stop ([]) ([]) (Up (St 10) ∷ Up Req ∷ Up (St 1) ∷ Up Req ∷ []) ([]); ending = Stands; footed = false; gone = false })) q)) s) pages-39.sessions }

pages-40-is : IsDetached 2 (Errs Conflict) pages-39 pages-40
pages-40-is = record { conn = record { client = (InOnline 1); phase = (AtSession 1); wires = Stop ([]) ([]) (Up (St 10) ∷ Up Req ∷ Up (St 1) ∷ Up Req ∷ []) ([]); ending = Stands; footed = false; gone = false }; is = refl; row = record { number = 1; on = Some 2; counted = true; acked = 0; handled = 1; queue = 2 ∷ [] }; is_row = refl; on = refl; counted = refl; reason = tt; gives = refl }

pages-40-reached : PagingReached one_waits pages-40
pages-40-reached = paging_more one_waits (Does (Detaches 2 (Errs Conflict))) pages-39 pages-40 pages-39-reached (tt, (tt, pages-40-is))

abbrev pub pages-41 : View ℕ
pages-41 = record pages-40 { conns = with_at 3 (record { client = (InResume 1); phase = (AtSession 1); wires = Flow ([]) (Resumed 1 1 ∷ []); ending = Stands; footed = false; gone = false }) pages-40.conns; row = Some (record { number = 1; on = Some 3; counted = true; acked = 1; handled = 1; queue = [] }); sessions = alter (λ q s. resumed_if (has (Some 1) q) true s) pages-40.sessions }

pages-41-is : IsResumedHere 3 pages-40 pages-41
pages-41-is = record { conn = record { client = (InResume 1); phase = Ready; wires = Flow (ResumeAt 1 1 ∷ []) ([]); ending = Stands; footed = false; gone = false }; is = refl; rest = []; first = refl; here = refl; h = 1; row = record { number = 1; on = None; counted = true; acked = 0; handled = 1; queue = 2 ∷ [] }; is_row = refl; off = refl; counted = refl; gives = refl }

pages-41-reached : PagingReached one_waits pages-41
pages-41-reached = paging_more one_waits (Does (TakesResume 3)) pages-40 pages-41 pages-40-reached (tt, (tt, pages-41-is))

abbrev pub pages-42 : View ℕ
pages-42 = record pages-41 { conns = with_at 3 (record { client = (InOnline 1); phase = (AtSession 1); wires = Flow (Up (St 10) ∷ Up (St 1) ∷ Up Req ∷ []) ([]); ending = Stands; footed = false; gone = false }) pages-41.conns; own = Some (record { number = 1; acked = 1; handled = 1; queue = 10 ∷ 1 ∷ [] }); sessions = alter (λ q s. record s { up = record s.up { acked = if has (Some 1) q then length s.up.got else s.up.acked; way = if has (Some 1) q then (if true then drop (length s.up.got) s.up.put else []) else s.up.way; is_open = if has (Some 1) q then true else s.up.is_open } }) pages-41.sessions }

pages-42-is : IsReadResumed 3 pages-41 pages-42
pages-42-is = record { conn = record { client = (InResume 1); phase = (AtSession 1); wires = Flow ([]) (Resumed 1 1 ∷ []); ending = Stands; footed = false; gone = false }; is = refl; here = refl; rest = []; first = refl; client = refl; h = 1; own = record { number = 1; acked = 1; handled = 1; queue = 10 ∷ 1 ∷ [] }; is_own = refl; gives = refl }

pages-42-reached : PagingReached one_waits pages-42
pages-42-reached = paging_more one_waits (Does (ReadsResumed 3)) pages-41 pages-42 pages-41-reached (tt, (tt, pages-42-is))

abbrev pub pages-43 : View ℕ
pages-43 = record pages-42 { conns = with_at 3 (record { client = (InOnline 1); phase = (AtSession 1); wires = Flow (Up (St 1) ∷ Up Req ∷ []) ([]); ending = Stands; footed = false; gone = false }) pages-42.conns; row = Some (record { number = 1; on = Some 3; counted = true; acked = 1; handled = 2; queue = [] }); sessions = alter (λ q s. handled_if (has (Some 1) q) 10 (up_stanzas {A = ℕ} (Up (St 1) ∷ Up Req ∷ [])) s) pages-42.sessions }

pages-43-is : IsUpStanza 3 10 pages-42 pages-43
pages-43-is = record { conn = record { client = (InOnline 1); phase = (AtSession 1); wires = Flow (Up (St 10) ∷ Up (St 1) ∷ Up Req ∷ []) ([]); ending = Stands; footed = false; gone = false }; is = refl; rest = Up (St 1) ∷ Up Req ∷ []; first = refl; row = record { number = 1; on = Some 3; counted = true; acked = 1; handled = 1; queue = [] }; is_row = refl; on = refl; counted = refl; gives = refl }

pages-43-reached : PagingReached one_waits pages-43
pages-43-reached = paging_more one_waits (Does (TakesStanza 3 10)) pages-42 pages-43 pages-42-reached (tt, (tt, pages-43-is))

abbrev pub pages-44 : View ℕ
pages-44 = record pages-43 { conns = with_at 3 (record { client = (InOnline 1); phase = (AtSession 1); wires = Flow (Up Req ∷ []) ([]); ending = Stands; footed = false; gone = false }) pages-43.conns; row = Some (record { number = 1; on = Some 3; counted = true; acked = 1; handled = 3; queue = [] }); sessions = alter (λ q s. handled_if (has (Some 1) q) 1 (up_stanzas {A = ℕ} (Up Req ∷ [])) s) pages-43.sessions }

pages-44-is : IsUpStanza 3 1 pages-43 pages-44
pages-44-is = record { conn = record { client = (InOnline 1); phase = (AtSession 1); wires = Flow (Up (St 1) ∷ Up Req ∷ []) ([]); ending = Stands; footed = false; gone = false }; is = refl; rest = Up Req ∷ []; first = refl; row = record { number = 1; on = Some 3; counted = true; acked = 1; handled = 2; queue = [] }; is_row = refl; on = refl; counted = refl; gives = refl }

pages-44-reached : PagingReached one_waits pages-44
pages-44-reached = paging_more one_waits (Does (TakesStanza 3 1)) pages-43 pages-44 pages-43-reached (tt, (tt, pages-44-is))

abbrev pub pages-45 : View ℕ
pages-45 = record pages-44 { conns = with_at 3 (record { client = (InOnline 1); phase = (AtSession 1); wires = Flow (Up Req ∷ []) (Down (St 2) ∷ []); ending = Stands; footed = false; gone = false }) pages-44.conns; row = Some (record { number = 1; on = Some 3; counted = true; acked = 1; handled = 3; queue = 2 ∷ [] }); sessions = alter (λ q s. record s { down = put_if (has (Some 1) q) 2 s.down }) pages-44.sessions }

pages-45-is : IsServerPut 3 2 pages-44 pages-45
pages-45-is = record { conn = record { client = (InOnline 1); phase = (AtSession 1); wires = Flow (Up Req ∷ []) ([]); ending = Stands; footed = false; gone = false }; is = refl; row = record { number = 1; on = Some 3; counted = true; acked = 1; handled = 3; queue = [] }; is_row = refl; on = refl; counted = refl; gives = refl }

pages-45-reached : PagingReached one_waits pages-45
pages-45-reached = paging_more one_waits (Does (Serves 3 2)) pages-44 pages-45 pages-44-reached (may_serve one_waits pages-44 2 (record { number = 1; on = Some 3; counted = true; acked = 1; handled = 3; queue = [] }) (record { epoch = Some 1; counted = true; read = true; up = record { put = 1 ∷ 10 ∷ 1 ∷ []; acked = 1; got = 1 ∷ 10 ∷ 1 ∷ []; way = []; is_open = true; stated = 1 ∷ 1 ∷ 1 ∷ [] }; down = record { put = 2 ∷ []; acked = 1; got = 2 ∷ []; way = []; is_open = true; stated = 0 ∷ 1 ∷ [] } }) refl refl (omega arith), (tt, pages-45-is))

abbrev pub pages-46 : View ℕ
pages-46 = record pages-45 { conns = with_at 3 (record { client = (InOnline 1); phase = (AtSession 1); wires = Flow (Up Req ∷ []) ([]); ending = Stands; footed = false; gone = false }) pages-45.conns; own = Some (record { number = 1; acked = 1; handled = 2; queue = 10 ∷ 1 ∷ [] }); sessions = alter (λ q s. read_if (has (Some 1) q) 2 (down_stanzas {A = ℕ} ([])) s) pages-45.sessions }

pages-46-is : IsDownStanza 3 2 pages-45 pages-46
pages-46-is = record { conn = record { client = (InOnline 1); phase = (AtSession 1); wires = Flow (Up Req ∷ []) (Down (St 2) ∷ []); ending = Stands; footed = false; gone = false }; is = refl; here = refl; rest = []; first = refl; client = refl; own = record { number = 1; acked = 1; handled = 1; queue = 10 ∷ 1 ∷ [] }; is_own = refl; gives = refl }

pages-46-reached : PagingReached one_waits pages-46
pages-46-reached = paging_more one_waits (Does (ReadsStanza 3 2)) pages-45 pages-46 pages-45-reached (tt, (tt, pages-46-is))

abbrev pub pages-47 : View ℕ
pages-47 = record pages-46 { conns = with_at 3 (record { client = (InOnline 1); phase = (AtSession 1); wires = Flow (Up Req ∷ Up (St 1) ∷ []) ([]); ending = Stands; footed = false; gone = false }) pages-46.conns; own = Some (record { number = 1; acked = 1; handled = 2; queue = 10 ∷ 1 ∷ 1 ∷ [] }); sessions = alter (λ q s. record s { up = put_if (has (Some 1) q) 1 s.up }) pages-46.sessions }

pages-47-is : IsClientPut 3 1 pages-46 pages-47
pages-47-is = record { conn = record { client = (InOnline 1); phase = (AtSession 1); wires = Flow (Up Req ∷ []) ([]); ending = Stands; footed = false; gone = false }; is = refl; here = refl; own = record { number = 1; acked = 1; handled = 2; queue = 10 ∷ 1 ∷ [] }; is_own = refl; client = refl; gives = refl }

abbrev pub pages-48 : View ℕ
pages-48 = record pages-47 { conns = with_at 3 (record { client = (InOnline 1); phase = (AtSession 1); wires = Flow (Up Req ∷ Up (St 1) ∷ Up Req ∷ []) ([]); ending = Stands; footed = false; gone = false }) pages-47.conns }

pages-48-is : IsClientRequest 3 pages-47 pages-48
pages-48-is = record { conn = record { client = (InOnline 1); phase = (AtSession 1); wires = Flow (Up Req ∷ Up (St 1) ∷ []) ([]); ending = Stands; footed = false; gone = false }; is = refl; here = refl; own = record { number = 1; acked = 1; handled = 2; queue = 10 ∷ 1 ∷ 1 ∷ [] }; is_own = refl; client = refl; gives = refl }

pages-48-reached : PagingReached one_waits pages-48
pages-48-reached = paging_more one_waits (Says 3 1) pages-46 pages-48 pages-46-reached (may_ask one_waits pages-46 1 refl (record { number = 1; acked = 1; handled = 2; queue = 10 ∷ 1 ∷ [] }) (record { epoch = Some 1; counted = true; read = true; up = record { put = 1 ∷ 10 ∷ 1 ∷ []; acked = 1; got = 1 ∷ 10 ∷ 1 ∷ []; way = []; is_open = true; stated = 1 ∷ 1 ∷ 1 ∷ [] }; down = record { put = 2 ∷ 2 ∷ []; acked = 1; got = 2 ∷ 2 ∷ []; way = []; is_open = true; stated = 0 ∷ 1 ∷ [] } }) refl refl (omega arith), (pages-47, pages-47-is, pages-48-is))

pub three_wait : PagingReached one_waits pages-48 × (pages-48.own ≡ Some (record { number = 1; acked = 1; handled = 2; queue = 10 ∷ 1 ∷ 1 ∷ [] }))
three_wait = (pages-48-reached, refl)
