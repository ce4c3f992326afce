-- Worked runs, by computation: late binds and late words, footers, and a full queue.
use Rattle.std.proofs.Common.{◌≡◌, ℕ, true, false, ◌&&◌, if◌then◌else◌, [], ◌∷◌, refl, arith, None, Some}
use Rattle.sm_acks.specs.Delivery.{beginning}
use Rattle.sim_2_links.specs.Words.{St, Hdr, Auth, Resp, Bind, Enable, Foot, Head, Feat, Chal, Succ, Bound, Enabled, Down, Err, End, Conflict, Constraint, InHeader1, InFeatures1, InAuth, InResponse, InHeader2, InFeatures2, InBind, InEnable, InOnline, Start, Sasl, Challenge, Restart, Ready, AtSession}
use Rattle.sim_2_links.specs.Wires.{Flow, Stop}
use Rattle.sim_2_links.specs.Stages.{Stands, Errs, Closes}
use Rattle.sim_2_links.specs.Views.{with_at, alter, has, View, carries}
use Rattle.sim_2_links.specs.LinkMoves.{ways_cut, IsCut, IsLetGo, IsDialled, IsUpHand, IsDownHand}
use Rattle.sim_2_links.specs.SessionMoves.{IsAskBind, lost_if, IsDetached, IsRowEnded, unread, IsBound, IsReadBound, IsEnabled, IsReadEnabled, put_if, IsParked}
use Rattle.sim_2_links.specs.EndMoves.{IsFootTaken, IsUncountedShut, IsUncountedGone, IsFooted}
use Rattle.sim_2_links.specs.PutMoves.{IsServerPut}
use Rattle.sim_2_links.specs.Machine.{Cuts, Dials, LetsGo, Foots, ReadsHand, AsksToBind, ReadsBound, ReadsEnabled, TakesHand, TakesBind, TakesEnable, TakesFoot, Parks, HearsEarly, Detaches, Shuts, EndsRow, Serves, nothing_yet, LinkReached}

-- a late bind makes a session without an epoch, and the client reads an older bind result afterwards
abbrev pub binds-0 : View ℕ
binds-0 = nothing_yet

abbrev pub binds-1 : View ℕ
binds-1 = record binds-0 { here = Some 1; conns = with_at 1 (record { client = InHeader1; phase = Start; wires = Flow (Hdr ∷ []) ([]); ending = Stands; footed = false; gone = false }) binds-0.conns }

pub binds-1-is : IsDialled 1 binds-0 binds-1
binds-1-is = record { idle = refl; fresh = refl; gives = refl }

abbrev pub binds-2 : View ℕ
binds-2 = record binds-1 { conns = with_at 1 (record { client = InHeader1; phase = Sasl; wires = Flow ([]) (Head ∷ Feat ∷ []); ending = Stands; footed = false; gone = false }) binds-1.conns }

pub binds-2-is : IsUpHand 1 binds-1 binds-2
binds-2-is = record { conn = record { client = InHeader1; phase = Start; wires = Flow (Hdr ∷ []) ([]); ending = Stands; footed = false; gone = false }; is = refl; word = Hdr; rest = []; first = refl; phase = Sasl; puts = Head ∷ Feat ∷ []; hand = refl; gives = refl }

abbrev pub binds-3 : View ℕ
binds-3 = record binds-2 { conns = with_at 1 (record { client = InFeatures1; phase = Sasl; wires = Flow ([]) (Feat ∷ []); ending = Stands; footed = false; gone = false }) binds-2.conns }

pub binds-3-is : IsDownHand 1 binds-2 binds-3
binds-3-is = record { conn = record { client = InHeader1; phase = Sasl; wires = Flow ([]) (Head ∷ Feat ∷ []); ending = Stands; footed = false; gone = false }; is = refl; here = refl; word = Head; rest = Feat ∷ []; first = refl; early = tt; client = InFeatures1; puts = []; hand = refl; gives = refl }

abbrev pub binds-4 : View ℕ
binds-4 = record binds-3 { conns = with_at 1 (record { client = InAuth; phase = Sasl; wires = Flow (Auth ∷ []) ([]); ending = Stands; footed = false; gone = false }) binds-3.conns }

pub binds-4-is : IsDownHand 1 binds-3 binds-4
binds-4-is = record { conn = record { client = InFeatures1; phase = Sasl; wires = Flow ([]) (Feat ∷ []); ending = Stands; footed = false; gone = false }; is = refl; here = refl; word = Feat; rest = []; first = refl; early = tt; client = InAuth; puts = Auth ∷ []; hand = refl; gives = refl }

abbrev pub binds-5 : View ℕ
binds-5 = record binds-4 { conns = with_at 1 (record { client = InAuth; phase = Challenge; wires = Flow ([]) (Chal ∷ []); ending = Stands; footed = false; gone = false }) binds-4.conns }

pub binds-5-is : IsUpHand 1 binds-4 binds-5
binds-5-is = record { conn = record { client = InAuth; phase = Sasl; wires = Flow (Auth ∷ []) ([]); ending = Stands; footed = false; gone = false }; is = refl; word = Auth; rest = []; first = refl; phase = Challenge; puts = Chal ∷ []; hand = refl; gives = refl }

abbrev pub binds-6 : View ℕ
binds-6 = record binds-5 { conns = with_at 1 (record { client = InResponse; phase = Challenge; wires = Flow (Resp ∷ []) ([]); ending = Stands; footed = false; gone = false }) binds-5.conns }

pub binds-6-is : IsDownHand 1 binds-5 binds-6
binds-6-is = record { conn = record { client = InAuth; phase = Challenge; wires = Flow ([]) (Chal ∷ []); ending = Stands; footed = false; gone = false }; is = refl; here = refl; word = Chal; rest = []; first = refl; early = tt; client = InResponse; puts = Resp ∷ []; hand = refl; gives = refl }

abbrev pub binds-7 : View ℕ
binds-7 = record binds-6 { conns = with_at 1 (record { client = InResponse; phase = Restart; wires = Flow ([]) (Succ ∷ []); ending = Stands; footed = false; gone = false }) binds-6.conns }

pub binds-7-is : IsUpHand 1 binds-6 binds-7
binds-7-is = record { conn = record { client = InResponse; phase = Challenge; wires = Flow (Resp ∷ []) ([]); ending = Stands; footed = false; gone = false }; is = refl; word = Resp; rest = []; first = refl; phase = Restart; puts = Succ ∷ []; hand = refl; gives = refl }

abbrev pub binds-8 : View ℕ
binds-8 = record binds-7 { conns = with_at 1 (record { client = InHeader2; phase = Restart; wires = Flow (Hdr ∷ []) ([]); ending = Stands; footed = false; gone = false }) binds-7.conns }

pub binds-8-is : IsDownHand 1 binds-7 binds-8
binds-8-is = record { conn = record { client = InResponse; phase = Restart; wires = Flow ([]) (Succ ∷ []); ending = Stands; footed = false; gone = false }; is = refl; here = refl; word = Succ; rest = []; first = refl; early = tt; client = InHeader2; puts = Hdr ∷ []; hand = refl; gives = refl }

abbrev pub binds-9 : View ℕ
binds-9 = record binds-8 { conns = with_at 1 (record { client = InHeader2; phase = Ready; wires = Flow ([]) (Head ∷ Feat ∷ []); ending = Stands; footed = false; gone = false }) binds-8.conns }

pub binds-9-is : IsUpHand 1 binds-8 binds-9
binds-9-is = record { conn = record { client = InHeader2; phase = Restart; wires = Flow (Hdr ∷ []) ([]); ending = Stands; footed = false; gone = false }; is = refl; word = Hdr; rest = []; first = refl; phase = Ready; puts = Head ∷ Feat ∷ []; hand = refl; gives = refl }

abbrev pub binds-10 : View ℕ
binds-10 = record binds-9 { conns = with_at 1 (record { client = InFeatures2; phase = Ready; wires = Flow ([]) (Feat ∷ []); ending = Stands; footed = false; gone = false }) binds-9.conns }

pub binds-10-is : IsDownHand 1 binds-9 binds-10
binds-10-is = record { conn = record { client = InHeader2; phase = Ready; wires = Flow ([]) (Head ∷ Feat ∷ []); ending = Stands; footed = false; gone = false }; is = refl; here = refl; word = Head; rest = Feat ∷ []; first = refl; early = tt; client = InFeatures2; puts = []; hand = refl; gives = refl }

abbrev pub binds-11 : View ℕ
binds-11 = record binds-10 { conns = with_at 1 (record { client = InBind; phase = Ready; wires = Flow (Bind ∷ []) ([]); ending = Stands; footed = false; gone = false }) binds-10.conns }

pub binds-11-is : IsAskBind 1 binds-10 binds-11
binds-11-is = record { conn = record { client = InFeatures2; phase = Ready; wires = Flow ([]) (Feat ∷ []); ending = Stands; footed = false; gone = false }; is = refl; here = refl; rest = []; first = refl; client = refl; none = refl; gives = refl }

abbrev pub binds-12 : View ℕ
binds-12 = record binds-11 { conns = with_at 1 (record { client = InBind; phase = Ready; wires = Stop (Bind ∷ []) ([]) ([]) ([]); ending = Stands; footed = false; gone = false }) binds-11.conns; sessions = alter (ways_cut true (record { client = InBind; phase = Ready; wires = Flow (Bind ∷ []) ([]); ending = Stands; footed = false; gone = false }) 1 0) binds-11.sessions }

pub binds-12-is : IsCut 1 1 0 binds-11 binds-12
binds-12-is = record { conn = record { client = InBind; phase = Ready; wires = Flow (Bind ∷ []) ([]); ending = Stands; footed = false; gone = false }; is = refl; gives = refl }

abbrev pub binds-13 : View ℕ
binds-13 = record binds-12 { here = None }

pub binds-13-is : IsLetGo 1 binds-12 binds-13
binds-13-is = record { conn = record { client = InBind; phase = Ready; wires = Stop (Bind ∷ []) ([]) ([]) ([]); ending = Stands; footed = false; gone = false }; here = refl; is = refl; ended = refl; empty = refl; gives = refl }

abbrev pub binds-14 : View ℕ
binds-14 = record binds-13 { here = Some 2; conns = with_at 2 (record { client = InHeader1; phase = Start; wires = Flow (Hdr ∷ []) ([]); ending = Stands; footed = false; gone = false }) binds-13.conns }

pub binds-14-is : IsDialled 2 binds-13 binds-14
binds-14-is = record { idle = refl; fresh = refl; gives = refl }

abbrev pub binds-15 : View ℕ
binds-15 = record binds-14 { conns = with_at 2 (record { client = InHeader1; phase = Sasl; wires = Flow ([]) (Head ∷ Feat ∷ []); ending = Stands; footed = false; gone = false }) binds-14.conns }

pub binds-15-is : IsUpHand 2 binds-14 binds-15
binds-15-is = record { conn = record { client = InHeader1; phase = Start; wires = Flow (Hdr ∷ []) ([]); ending = Stands; footed = false; gone = false }; is = refl; word = Hdr; rest = []; first = refl; phase = Sasl; puts = Head ∷ Feat ∷ []; hand = refl; gives = refl }

abbrev pub binds-16 : View ℕ
binds-16 = record binds-15 { conns = with_at 2 (record { client = InFeatures1; phase = Sasl; wires = Flow ([]) (Feat ∷ []); ending = Stands; footed = false; gone = false }) binds-15.conns }

pub binds-16-is : IsDownHand 2 binds-15 binds-16
binds-16-is = record { conn = record { client = InHeader1; phase = Sasl; wires = Flow ([]) (Head ∷ Feat ∷ []); ending = Stands; footed = false; gone = false }; is = refl; here = refl; word = Head; rest = Feat ∷ []; first = refl; early = tt; client = InFeatures1; puts = []; hand = refl; gives = refl }

abbrev pub binds-17 : View ℕ
binds-17 = record binds-16 { conns = with_at 2 (record { client = InAuth; phase = Sasl; wires = Flow (Auth ∷ []) ([]); ending = Stands; footed = false; gone = false }) binds-16.conns }

pub binds-17-is : IsDownHand 2 binds-16 binds-17
binds-17-is = record { conn = record { client = InFeatures1; phase = Sasl; wires = Flow ([]) (Feat ∷ []); ending = Stands; footed = false; gone = false }; is = refl; here = refl; word = Feat; rest = []; first = refl; early = tt; client = InAuth; puts = Auth ∷ []; hand = refl; gives = refl }

abbrev pub binds-18 : View ℕ
binds-18 = record binds-17 { conns = with_at 2 (record { client = InAuth; phase = Challenge; wires = Flow ([]) (Chal ∷ []); ending = Stands; footed = false; gone = false }) binds-17.conns }

pub binds-18-is : IsUpHand 2 binds-17 binds-18
binds-18-is = record { conn = record { client = InAuth; phase = Sasl; wires = Flow (Auth ∷ []) ([]); ending = Stands; footed = false; gone = false }; is = refl; word = Auth; rest = []; first = refl; phase = Challenge; puts = Chal ∷ []; hand = refl; gives = refl }

abbrev pub binds-19 : View ℕ
binds-19 = record binds-18 { conns = with_at 2 (record { client = InResponse; phase = Challenge; wires = Flow (Resp ∷ []) ([]); ending = Stands; footed = false; gone = false }) binds-18.conns }

pub binds-19-is : IsDownHand 2 binds-18 binds-19
binds-19-is = record { conn = record { client = InAuth; phase = Challenge; wires = Flow ([]) (Chal ∷ []); ending = Stands; footed = false; gone = false }; is = refl; here = refl; word = Chal; rest = []; first = refl; early = tt; client = InResponse; puts = Resp ∷ []; hand = refl; gives = refl }

abbrev pub binds-20 : View ℕ
binds-20 = record binds-19 { conns = with_at 2 (record { client = InResponse; phase = Restart; wires = Flow ([]) (Succ ∷ []); ending = Stands; footed = false; gone = false }) binds-19.conns }

pub binds-20-is : IsUpHand 2 binds-19 binds-20
binds-20-is = record { conn = record { client = InResponse; phase = Challenge; wires = Flow (Resp ∷ []) ([]); ending = Stands; footed = false; gone = false }; is = refl; word = Resp; rest = []; first = refl; phase = Restart; puts = Succ ∷ []; hand = refl; gives = refl }

abbrev pub binds-21 : View ℕ
binds-21 = record binds-20 { conns = with_at 2 (record { client = InHeader2; phase = Restart; wires = Flow (Hdr ∷ []) ([]); ending = Stands; footed = false; gone = false }) binds-20.conns }

pub binds-21-is : IsDownHand 2 binds-20 binds-21
binds-21-is = record { conn = record { client = InResponse; phase = Restart; wires = Flow ([]) (Succ ∷ []); ending = Stands; footed = false; gone = false }; is = refl; here = refl; word = Succ; rest = []; first = refl; early = tt; client = InHeader2; puts = Hdr ∷ []; hand = refl; gives = refl }

abbrev pub binds-22 : View ℕ
binds-22 = record binds-21 { conns = with_at 2 (record { client = InHeader2; phase = Ready; wires = Flow ([]) (Head ∷ Feat ∷ []); ending = Stands; footed = false; gone = false }) binds-21.conns }

pub binds-22-is : IsUpHand 2 binds-21 binds-22
binds-22-is = record { conn = record { client = InHeader2; phase = Restart; wires = Flow (Hdr ∷ []) ([]); ending = Stands; footed = false; gone = false }; is = refl; word = Hdr; rest = []; first = refl; phase = Ready; puts = Head ∷ Feat ∷ []; hand = refl; gives = refl }

abbrev pub binds-23 : View ℕ
binds-23 = record binds-22 { conns = with_at 2 (record { client = InFeatures2; phase = Ready; wires = Flow ([]) (Feat ∷ []); ending = Stands; footed = false; gone = false }) binds-22.conns }

pub binds-23-is : IsDownHand 2 binds-22 binds-23
binds-23-is = record { conn = record { client = InHeader2; phase = Ready; wires = Flow ([]) (Head ∷ Feat ∷ []); ending = Stands; footed = false; gone = false }; is = refl; here = refl; word = Head; rest = Feat ∷ []; first = refl; early = tt; client = InFeatures2; puts = []; hand = refl; gives = refl }

abbrev pub binds-24 : View ℕ
binds-24 = record binds-23 { conns = with_at 2 (record { client = InBind; phase = Ready; wires = Flow (Bind ∷ []) ([]); ending = Stands; footed = false; gone = false }) binds-23.conns }

pub binds-24-is : IsAskBind 2 binds-23 binds-24
binds-24-is = record { conn = record { client = InFeatures2; phase = Ready; wires = Flow ([]) (Feat ∷ []); ending = Stands; footed = false; gone = false }; is = refl; here = refl; rest = []; first = refl; client = refl; none = refl; gives = refl }

abbrev pub binds-25 : View ℕ
binds-25 = record binds-24 { conns = with_at 2 (record { client = InBind; phase = (AtSession 1); wires = Flow ([]) (Bound 1 ∷ []); ending = Stands; footed = false; gone = false }) binds-24.conns; row = Some (record { number = 1; on = Some 2; counted = false; acked = 0; handled = 0; queue = [] }); sessions = with_at 1 unread binds-24.sessions; free = 2 }

pub binds-25-is : IsBound 2 1 binds-24 binds-25
binds-25-is = record { conn = record { client = InBind; phase = Ready; wires = Flow (Bind ∷ []) ([]); ending = Stands; footed = false; gone = false }; is = refl; rest = []; first = refl; phase = refl; none = refl; fresh = refl; rises = omega arith; gives = refl }

pub binds-25-reached : LinkReached binds-25
binds-25-reached = record { moves = Dials 1 ∷ TakesHand 1 ∷ ReadsHand 1 ∷ ReadsHand 1 ∷ TakesHand 1 ∷ ReadsHand 1 ∷ TakesHand 1 ∷ ReadsHand 1 ∷ TakesHand 1 ∷ ReadsHand 1 ∷ AsksToBind 1 ∷ Cuts 1 1 0 ∷ LetsGo 1 ∷ Dials 2 ∷ TakesHand 2 ∷ ReadsHand 2 ∷ ReadsHand 2 ∷ TakesHand 2 ∷ ReadsHand 2 ∷ TakesHand 2 ∷ ReadsHand 2 ∷ TakesHand 2 ∷ ReadsHand 2 ∷ AsksToBind 2 ∷ TakesBind 2 1 ∷ []; reaches = (binds-1, binds-1-is, (binds-2, binds-2-is, (binds-3, binds-3-is, (binds-4, binds-4-is, (binds-5, binds-5-is, (binds-6, binds-6-is, (binds-7, binds-7-is, (binds-8, binds-8-is, (binds-9, binds-9-is, (binds-10, binds-10-is, (binds-11, binds-11-is, (binds-12, binds-12-is, (binds-13, binds-13-is, (binds-14, binds-14-is, (binds-15, binds-15-is, (binds-16, binds-16-is, (binds-17, binds-17-is, (binds-18, binds-18-is, (binds-19, binds-19-is, (binds-20, binds-20-is, (binds-21, binds-21-is, (binds-22, binds-22-is, (binds-23, binds-23-is, (binds-24, binds-24-is, (binds-25, binds-25-is, refl))))))))))))))))))))))))) }

abbrev pub binds-26 : View ℕ
binds-26 = record binds-25 { conns = with_at 2 (record { client = InBind; phase = (AtSession 1); wires = Stop ([]) (Bound 1 ∷ Err Conflict ∷ End ∷ []) ([]) ([]); ending = Errs Conflict; footed = false; gone = false }) binds-25.conns; row = None }

pub binds-26-is : IsUncountedShut 2 (Errs Conflict) binds-25 binds-26
binds-26-is = record { conn = record { client = InBind; phase = (AtSession 1); wires = Flow ([]) (Bound 1 ∷ []); ending = Stands; footed = false; gone = false }; is = refl; row = record { number = 1; on = Some 2; counted = false; acked = 0; handled = 0; queue = [] }; is_row = refl; on = refl; uncounted = refl; reason = tt; gives = refl }

abbrev pub binds-27 : View ℕ
binds-27 = record binds-26 { conns = with_at 1 (record { client = InBind; phase = (AtSession 2); wires = Stop ([]) ([]) ([]) (Bound 2 ∷ []); ending = Stands; footed = false; gone = false }) binds-26.conns; row = Some (record { number = 2; on = Some 1; counted = false; acked = 0; handled = 0; queue = [] }); sessions = with_at 2 unread binds-26.sessions; free = 3 }

pub binds-27-is : IsBound 1 2 binds-26 binds-27
binds-27-is = record { conn = record { client = InBind; phase = Ready; wires = Stop (Bind ∷ []) ([]) ([]) ([]); ending = Stands; footed = false; gone = false }; is = refl; rest = []; first = refl; phase = refl; none = refl; fresh = refl; rises = omega arith; gives = refl }

abbrev pub binds-28 : View ℕ
binds-28 = record binds-27 { conns = with_at 2 (record { client = InEnable; phase = (AtSession 1); wires = Stop ([]) (Err Conflict ∷ End ∷ []) (Enable ∷ []) ([]); ending = Errs Conflict; footed = false; gone = false }) binds-27.conns; epoch = 1; sessions = alter (λ q s. record s { epoch = if has (Some 1) q then Some 1 else s.epoch }) binds-27.sessions }

pub binds-28-is : IsReadBound 2 1 binds-27 binds-28
binds-28-is = record { conn = record { client = InBind; phase = (AtSession 1); wires = Stop ([]) (Bound 1 ∷ Err Conflict ∷ End ∷ []) ([]) ([]); ending = Errs Conflict; footed = false; gone = false }; is = refl; here = refl; rest = Err Conflict ∷ End ∷ []; first = refl; client = refl; gives = refl }

abbrev pub binds-29 : View ℕ
binds-29 = record binds-28 { conns = with_at 1 (record { client = InBind; phase = (AtSession 2); wires = Stop ([]) ([]) ([]) (Bound 2 ∷ []); ending = Stands; footed = false; gone = true }) binds-28.conns; row = None }

pub binds-29-is : IsUncountedGone 1 binds-28 binds-29
binds-29-is = record { conn = record { client = InBind; phase = (AtSession 2); wires = Stop ([]) ([]) ([]) (Bound 2 ∷ []); ending = Stands; footed = false; gone = false }; is = refl; ended = refl; empty = refl; row = record { number = 2; on = Some 1; counted = false; acked = 0; handled = 0; queue = [] }; is_row = refl; on = refl; uncounted = refl; gives = refl }

pub binds-29-reached : LinkReached binds-29
binds-29-reached = record { moves = Dials 1 ∷ TakesHand 1 ∷ ReadsHand 1 ∷ ReadsHand 1 ∷ TakesHand 1 ∷ ReadsHand 1 ∷ TakesHand 1 ∷ ReadsHand 1 ∷ TakesHand 1 ∷ ReadsHand 1 ∷ AsksToBind 1 ∷ Cuts 1 1 0 ∷ LetsGo 1 ∷ Dials 2 ∷ TakesHand 2 ∷ ReadsHand 2 ∷ ReadsHand 2 ∷ TakesHand 2 ∷ ReadsHand 2 ∷ TakesHand 2 ∷ ReadsHand 2 ∷ TakesHand 2 ∷ ReadsHand 2 ∷ AsksToBind 2 ∷ TakesBind 2 1 ∷ Shuts 2 (Errs Conflict) ∷ TakesBind 1 2 ∷ ReadsBound 2 1 ∷ HearsEarly 1 ∷ []; reaches = (binds-1, binds-1-is, (binds-2, binds-2-is, (binds-3, binds-3-is, (binds-4, binds-4-is, (binds-5, binds-5-is, (binds-6, binds-6-is, (binds-7, binds-7-is, (binds-8, binds-8-is, (binds-9, binds-9-is, (binds-10, binds-10-is, (binds-11, binds-11-is, (binds-12, binds-12-is, (binds-13, binds-13-is, (binds-14, binds-14-is, (binds-15, binds-15-is, (binds-16, binds-16-is, (binds-17, binds-17-is, (binds-18, binds-18-is, (binds-19, binds-19-is, (binds-20, binds-20-is, (binds-21, binds-21-is, (binds-22, binds-22-is, (binds-23, binds-23-is, (binds-24, binds-24-is, (binds-25, binds-25-is, (binds-26, binds-26-is, (binds-27, binds-27-is, (binds-28, binds-28-is, (binds-29, binds-29-is, refl))))))))))))))))))))))))))))) }

pub the_older_one_is_named : (binds-29.sessions 1 ≡ Some (record { epoch = Some 1; counted = false; read = false; up = beginning; down = beginning })) × (binds-29.sessions 2 ≡ Some unread) × (binds-29.row ≡ None)
the_older_one_is_named = (refl, refl, refl)

-- a late enable makes a session that the server counts and parks, and of which no client knows; the next bind ends it
abbrev pub enables-0 : View ℕ
enables-0 = nothing_yet

abbrev pub enables-1 : View ℕ
enables-1 = record enables-0 { here = Some 1; conns = with_at 1 (record { client = InHeader1; phase = Start; wires = Flow (Hdr ∷ []) ([]); ending = Stands; footed = false; gone = false }) enables-0.conns }

pub enables-1-is : IsDialled 1 enables-0 enables-1
enables-1-is = record { idle = refl; fresh = refl; gives = refl }

abbrev pub enables-2 : View ℕ
enables-2 = record enables-1 { conns = with_at 1 (record { client = InHeader1; phase = Sasl; wires = Flow ([]) (Head ∷ Feat ∷ []); ending = Stands; footed = false; gone = false }) enables-1.conns }

pub enables-2-is : IsUpHand 1 enables-1 enables-2
enables-2-is = record { conn = record { client = InHeader1; phase = Start; wires = Flow (Hdr ∷ []) ([]); ending = Stands; footed = false; gone = false }; is = refl; word = Hdr; rest = []; first = refl; phase = Sasl; puts = Head ∷ Feat ∷ []; hand = refl; gives = refl }

abbrev pub enables-3 : View ℕ
enables-3 = record enables-2 { conns = with_at 1 (record { client = InFeatures1; phase = Sasl; wires = Flow ([]) (Feat ∷ []); ending = Stands; footed = false; gone = false }) enables-2.conns }

pub enables-3-is : IsDownHand 1 enables-2 enables-3
enables-3-is = record { conn = record { client = InHeader1; phase = Sasl; wires = Flow ([]) (Head ∷ Feat ∷ []); ending = Stands; footed = false; gone = false }; is = refl; here = refl; word = Head; rest = Feat ∷ []; first = refl; early = tt; client = InFeatures1; puts = []; hand = refl; gives = refl }

abbrev pub enables-4 : View ℕ
enables-4 = record enables-3 { conns = with_at 1 (record { client = InAuth; phase = Sasl; wires = Flow (Auth ∷ []) ([]); ending = Stands; footed = false; gone = false }) enables-3.conns }

pub enables-4-is : IsDownHand 1 enables-3 enables-4
enables-4-is = record { conn = record { client = InFeatures1; phase = Sasl; wires = Flow ([]) (Feat ∷ []); ending = Stands; footed = false; gone = false }; is = refl; here = refl; word = Feat; rest = []; first = refl; early = tt; client = InAuth; puts = Auth ∷ []; hand = refl; gives = refl }

abbrev pub enables-5 : View ℕ
enables-5 = record enables-4 { conns = with_at 1 (record { client = InAuth; phase = Challenge; wires = Flow ([]) (Chal ∷ []); ending = Stands; footed = false; gone = false }) enables-4.conns }

pub enables-5-is : IsUpHand 1 enables-4 enables-5
enables-5-is = record { conn = record { client = InAuth; phase = Sasl; wires = Flow (Auth ∷ []) ([]); ending = Stands; footed = false; gone = false }; is = refl; word = Auth; rest = []; first = refl; phase = Challenge; puts = Chal ∷ []; hand = refl; gives = refl }

abbrev pub enables-6 : View ℕ
enables-6 = record enables-5 { conns = with_at 1 (record { client = InResponse; phase = Challenge; wires = Flow (Resp ∷ []) ([]); ending = Stands; footed = false; gone = false }) enables-5.conns }

pub enables-6-is : IsDownHand 1 enables-5 enables-6
enables-6-is = record { conn = record { client = InAuth; phase = Challenge; wires = Flow ([]) (Chal ∷ []); ending = Stands; footed = false; gone = false }; is = refl; here = refl; word = Chal; rest = []; first = refl; early = tt; client = InResponse; puts = Resp ∷ []; hand = refl; gives = refl }

abbrev pub enables-7 : View ℕ
enables-7 = record enables-6 { conns = with_at 1 (record { client = InResponse; phase = Restart; wires = Flow ([]) (Succ ∷ []); ending = Stands; footed = false; gone = false }) enables-6.conns }

pub enables-7-is : IsUpHand 1 enables-6 enables-7
enables-7-is = record { conn = record { client = InResponse; phase = Challenge; wires = Flow (Resp ∷ []) ([]); ending = Stands; footed = false; gone = false }; is = refl; word = Resp; rest = []; first = refl; phase = Restart; puts = Succ ∷ []; hand = refl; gives = refl }

abbrev pub enables-8 : View ℕ
enables-8 = record enables-7 { conns = with_at 1 (record { client = InHeader2; phase = Restart; wires = Flow (Hdr ∷ []) ([]); ending = Stands; footed = false; gone = false }) enables-7.conns }

pub enables-8-is : IsDownHand 1 enables-7 enables-8
enables-8-is = record { conn = record { client = InResponse; phase = Restart; wires = Flow ([]) (Succ ∷ []); ending = Stands; footed = false; gone = false }; is = refl; here = refl; word = Succ; rest = []; first = refl; early = tt; client = InHeader2; puts = Hdr ∷ []; hand = refl; gives = refl }

abbrev pub enables-9 : View ℕ
enables-9 = record enables-8 { conns = with_at 1 (record { client = InHeader2; phase = Ready; wires = Flow ([]) (Head ∷ Feat ∷ []); ending = Stands; footed = false; gone = false }) enables-8.conns }

pub enables-9-is : IsUpHand 1 enables-8 enables-9
enables-9-is = record { conn = record { client = InHeader2; phase = Restart; wires = Flow (Hdr ∷ []) ([]); ending = Stands; footed = false; gone = false }; is = refl; word = Hdr; rest = []; first = refl; phase = Ready; puts = Head ∷ Feat ∷ []; hand = refl; gives = refl }

abbrev pub enables-10 : View ℕ
enables-10 = record enables-9 { conns = with_at 1 (record { client = InFeatures2; phase = Ready; wires = Flow ([]) (Feat ∷ []); ending = Stands; footed = false; gone = false }) enables-9.conns }

pub enables-10-is : IsDownHand 1 enables-9 enables-10
enables-10-is = record { conn = record { client = InHeader2; phase = Ready; wires = Flow ([]) (Head ∷ Feat ∷ []); ending = Stands; footed = false; gone = false }; is = refl; here = refl; word = Head; rest = Feat ∷ []; first = refl; early = tt; client = InFeatures2; puts = []; hand = refl; gives = refl }

abbrev pub enables-11 : View ℕ
enables-11 = record enables-10 { conns = with_at 1 (record { client = InBind; phase = Ready; wires = Flow (Bind ∷ []) ([]); ending = Stands; footed = false; gone = false }) enables-10.conns }

pub enables-11-is : IsAskBind 1 enables-10 enables-11
enables-11-is = record { conn = record { client = InFeatures2; phase = Ready; wires = Flow ([]) (Feat ∷ []); ending = Stands; footed = false; gone = false }; is = refl; here = refl; rest = []; first = refl; client = refl; none = refl; gives = refl }

abbrev pub enables-12 : View ℕ
enables-12 = record enables-11 { conns = with_at 1 (record { client = InBind; phase = (AtSession 1); wires = Flow ([]) (Bound 1 ∷ []); ending = Stands; footed = false; gone = false }) enables-11.conns; row = Some (record { number = 1; on = Some 1; counted = false; acked = 0; handled = 0; queue = [] }); sessions = with_at 1 unread enables-11.sessions; free = 2 }

pub enables-12-is : IsBound 1 1 enables-11 enables-12
enables-12-is = record { conn = record { client = InBind; phase = Ready; wires = Flow (Bind ∷ []) ([]); ending = Stands; footed = false; gone = false }; is = refl; rest = []; first = refl; phase = refl; none = refl; fresh = refl; rises = omega arith; gives = refl }

abbrev pub enables-13 : View ℕ
enables-13 = record enables-12 { conns = with_at 1 (record { client = InEnable; phase = (AtSession 1); wires = Flow (Enable ∷ []) ([]); ending = Stands; footed = false; gone = false }) enables-12.conns; epoch = 1; sessions = alter (λ q s. record s { epoch = if has (Some 1) q then Some 1 else s.epoch }) enables-12.sessions }

pub enables-13-is : IsReadBound 1 1 enables-12 enables-13
enables-13-is = record { conn = record { client = InBind; phase = (AtSession 1); wires = Flow ([]) (Bound 1 ∷ []); ending = Stands; footed = false; gone = false }; is = refl; here = refl; rest = []; first = refl; client = refl; gives = refl }

abbrev pub enables-14 : View ℕ
enables-14 = record enables-13 { conns = with_at 1 (record { client = InEnable; phase = (AtSession 1); wires = Stop (Enable ∷ []) ([]) ([]) ([]); ending = Stands; footed = false; gone = false }) enables-13.conns; sessions = alter (ways_cut true (record { client = InEnable; phase = (AtSession 1); wires = Flow (Enable ∷ []) ([]); ending = Stands; footed = false; gone = false }) 1 0) enables-13.sessions }

pub enables-14-is : IsCut 1 1 0 enables-13 enables-14
enables-14-is = record { conn = record { client = InEnable; phase = (AtSession 1); wires = Flow (Enable ∷ []) ([]); ending = Stands; footed = false; gone = false }; is = refl; gives = refl }

abbrev pub enables-15 : View ℕ
enables-15 = record enables-14 { here = None }

pub enables-15-is : IsLetGo 1 enables-14 enables-15
enables-15-is = record { conn = record { client = InEnable; phase = (AtSession 1); wires = Stop (Enable ∷ []) ([]) ([]) ([]); ending = Stands; footed = false; gone = false }; here = refl; is = refl; ended = refl; empty = refl; gives = refl }

abbrev pub enables-16 : View ℕ
enables-16 = record enables-15 { conns = with_at 1 (record { client = InEnable; phase = (AtSession 1); wires = Stop ([]) ([]) ([]) (Enabled 1 ∷ []); ending = Stands; footed = false; gone = false }) enables-15.conns; row = Some (record { number = 1; on = Some 1; counted = true; acked = 0; handled = 0; queue = [] }); sessions = alter (λ q s. record s { counted = if has (Some 1) q then true else s.counted; up = record s.up { is_open = if has (Some 1) q then false else s.up.is_open }; down = record s.down { is_open = if has (Some 1) q then false else s.down.is_open } }) enables-15.sessions }

pub enables-16-is : IsEnabled 1 enables-15 enables-16
enables-16-is = record { conn = record { client = InEnable; phase = (AtSession 1); wires = Stop (Enable ∷ []) ([]) ([]) ([]); ending = Stands; footed = false; gone = false }; is = refl; rest = []; first = refl; row = record { number = 1; on = Some 1; counted = false; acked = 0; handled = 0; queue = [] }; is_row = refl; on = refl; uncounted = refl; gives = refl }

abbrev pub enables-17 : View ℕ
enables-17 = record enables-16 { conns = with_at 1 (record { client = InEnable; phase = (AtSession 1); wires = Stop ([]) ([]) ([]) (Enabled 1 ∷ []); ending = Stands; footed = false; gone = true }) enables-16.conns; row = Some (record { number = 1; on = None; counted = true; acked = 0; handled = 0; queue = [] }) }

pub enables-17-is : IsParked 1 enables-16 enables-17
enables-17-is = record { conn = record { client = InEnable; phase = (AtSession 1); wires = Stop ([]) ([]) ([]) (Enabled 1 ∷ []); ending = Stands; footed = false; gone = false }; is = refl; ended = refl; empty = refl; row = record { number = 1; on = Some 1; counted = true; acked = 0; handled = 0; queue = [] }; is_row = refl; on = refl; counted = refl; gives = refl }

abbrev pub enables-18 : View ℕ
enables-18 = record enables-17 { here = Some 2; conns = with_at 2 (record { client = InHeader1; phase = Start; wires = Flow (Hdr ∷ []) ([]); ending = Stands; footed = false; gone = false }) enables-17.conns }

pub enables-18-is : IsDialled 2 enables-17 enables-18
enables-18-is = record { idle = refl; fresh = refl; gives = refl }

abbrev pub enables-19 : View ℕ
enables-19 = record enables-18 { conns = with_at 2 (record { client = InHeader1; phase = Sasl; wires = Flow ([]) (Head ∷ Feat ∷ []); ending = Stands; footed = false; gone = false }) enables-18.conns }

pub enables-19-is : IsUpHand 2 enables-18 enables-19
enables-19-is = record { conn = record { client = InHeader1; phase = Start; wires = Flow (Hdr ∷ []) ([]); ending = Stands; footed = false; gone = false }; is = refl; word = Hdr; rest = []; first = refl; phase = Sasl; puts = Head ∷ Feat ∷ []; hand = refl; gives = refl }

abbrev pub enables-20 : View ℕ
enables-20 = record enables-19 { conns = with_at 2 (record { client = InFeatures1; phase = Sasl; wires = Flow ([]) (Feat ∷ []); ending = Stands; footed = false; gone = false }) enables-19.conns }

pub enables-20-is : IsDownHand 2 enables-19 enables-20
enables-20-is = record { conn = record { client = InHeader1; phase = Sasl; wires = Flow ([]) (Head ∷ Feat ∷ []); ending = Stands; footed = false; gone = false }; is = refl; here = refl; word = Head; rest = Feat ∷ []; first = refl; early = tt; client = InFeatures1; puts = []; hand = refl; gives = refl }

abbrev pub enables-21 : View ℕ
enables-21 = record enables-20 { conns = with_at 2 (record { client = InAuth; phase = Sasl; wires = Flow (Auth ∷ []) ([]); ending = Stands; footed = false; gone = false }) enables-20.conns }

pub enables-21-is : IsDownHand 2 enables-20 enables-21
enables-21-is = record { conn = record { client = InFeatures1; phase = Sasl; wires = Flow ([]) (Feat ∷ []); ending = Stands; footed = false; gone = false }; is = refl; here = refl; word = Feat; rest = []; first = refl; early = tt; client = InAuth; puts = Auth ∷ []; hand = refl; gives = refl }

abbrev pub enables-22 : View ℕ
enables-22 = record enables-21 { conns = with_at 2 (record { client = InAuth; phase = Challenge; wires = Flow ([]) (Chal ∷ []); ending = Stands; footed = false; gone = false }) enables-21.conns }

pub enables-22-is : IsUpHand 2 enables-21 enables-22
enables-22-is = record { conn = record { client = InAuth; phase = Sasl; wires = Flow (Auth ∷ []) ([]); ending = Stands; footed = false; gone = false }; is = refl; word = Auth; rest = []; first = refl; phase = Challenge; puts = Chal ∷ []; hand = refl; gives = refl }

abbrev pub enables-23 : View ℕ
enables-23 = record enables-22 { conns = with_at 2 (record { client = InResponse; phase = Challenge; wires = Flow (Resp ∷ []) ([]); ending = Stands; footed = false; gone = false }) enables-22.conns }

pub enables-23-is : IsDownHand 2 enables-22 enables-23
enables-23-is = record { conn = record { client = InAuth; phase = Challenge; wires = Flow ([]) (Chal ∷ []); ending = Stands; footed = false; gone = false }; is = refl; here = refl; word = Chal; rest = []; first = refl; early = tt; client = InResponse; puts = Resp ∷ []; hand = refl; gives = refl }

abbrev pub enables-24 : View ℕ
enables-24 = record enables-23 { conns = with_at 2 (record { client = InResponse; phase = Restart; wires = Flow ([]) (Succ ∷ []); ending = Stands; footed = false; gone = false }) enables-23.conns }

pub enables-24-is : IsUpHand 2 enables-23 enables-24
enables-24-is = record { conn = record { client = InResponse; phase = Challenge; wires = Flow (Resp ∷ []) ([]); ending = Stands; footed = false; gone = false }; is = refl; word = Resp; rest = []; first = refl; phase = Restart; puts = Succ ∷ []; hand = refl; gives = refl }

abbrev pub enables-25 : View ℕ
enables-25 = record enables-24 { conns = with_at 2 (record { client = InHeader2; phase = Restart; wires = Flow (Hdr ∷ []) ([]); ending = Stands; footed = false; gone = false }) enables-24.conns }

pub enables-25-is : IsDownHand 2 enables-24 enables-25
enables-25-is = record { conn = record { client = InResponse; phase = Restart; wires = Flow ([]) (Succ ∷ []); ending = Stands; footed = false; gone = false }; is = refl; here = refl; word = Succ; rest = []; first = refl; early = tt; client = InHeader2; puts = Hdr ∷ []; hand = refl; gives = refl }

abbrev pub enables-26 : View ℕ
enables-26 = record enables-25 { conns = with_at 2 (record { client = InHeader2; phase = Ready; wires = Flow ([]) (Head ∷ Feat ∷ []); ending = Stands; footed = false; gone = false }) enables-25.conns }

pub enables-26-is : IsUpHand 2 enables-25 enables-26
enables-26-is = record { conn = record { client = InHeader2; phase = Restart; wires = Flow (Hdr ∷ []) ([]); ending = Stands; footed = false; gone = false }; is = refl; word = Hdr; rest = []; first = refl; phase = Ready; puts = Head ∷ Feat ∷ []; hand = refl; gives = refl }

abbrev pub enables-27 : View ℕ
enables-27 = record enables-26 { conns = with_at 2 (record { client = InFeatures2; phase = Ready; wires = Flow ([]) (Feat ∷ []); ending = Stands; footed = false; gone = false }) enables-26.conns }

pub enables-27-is : IsDownHand 2 enables-26 enables-27
enables-27-is = record { conn = record { client = InHeader2; phase = Ready; wires = Flow ([]) (Head ∷ Feat ∷ []); ending = Stands; footed = false; gone = false }; is = refl; here = refl; word = Head; rest = Feat ∷ []; first = refl; early = tt; client = InFeatures2; puts = []; hand = refl; gives = refl }

abbrev pub enables-28 : View ℕ
enables-28 = record enables-27 { conns = with_at 2 (record { client = InBind; phase = Ready; wires = Flow (Bind ∷ []) ([]); ending = Stands; footed = false; gone = false }) enables-27.conns }

pub enables-28-is : IsAskBind 2 enables-27 enables-28
enables-28-is = record { conn = record { client = InFeatures2; phase = Ready; wires = Flow ([]) (Feat ∷ []); ending = Stands; footed = false; gone = false }; is = refl; here = refl; rest = []; first = refl; client = refl; none = refl; gives = refl }

abbrev pub enables-29 : View ℕ
enables-29 = record enables-28 { row = None }

pub enables-29-is : IsRowEnded enables-28 enables-29
enables-29-is = record { row = record { number = 1; on = None; counted = true; acked = 0; handled = 0; queue = [] }; is_row = refl; off = refl; gives = refl }

abbrev pub enables-30 : View ℕ
enables-30 = record enables-29 { conns = with_at 2 (record { client = InBind; phase = (AtSession 2); wires = Flow ([]) (Bound 2 ∷ []); ending = Stands; footed = false; gone = false }) enables-29.conns; row = Some (record { number = 2; on = Some 2; counted = false; acked = 0; handled = 0; queue = [] }); sessions = with_at 2 unread enables-29.sessions; free = 3 }

pub enables-30-is : IsBound 2 2 enables-29 enables-30
enables-30-is = record { conn = record { client = InBind; phase = Ready; wires = Flow (Bind ∷ []) ([]); ending = Stands; footed = false; gone = false }; is = refl; rest = []; first = refl; phase = refl; none = refl; fresh = refl; rises = omega arith; gives = refl }

pub enables-30-reached : LinkReached enables-30
enables-30-reached = record { moves = Dials 1 ∷ TakesHand 1 ∷ ReadsHand 1 ∷ ReadsHand 1 ∷ TakesHand 1 ∷ ReadsHand 1 ∷ TakesHand 1 ∷ ReadsHand 1 ∷ TakesHand 1 ∷ ReadsHand 1 ∷ AsksToBind 1 ∷ TakesBind 1 1 ∷ ReadsBound 1 1 ∷ Cuts 1 1 0 ∷ LetsGo 1 ∷ TakesEnable 1 ∷ Parks 1 ∷ Dials 2 ∷ TakesHand 2 ∷ ReadsHand 2 ∷ ReadsHand 2 ∷ TakesHand 2 ∷ ReadsHand 2 ∷ TakesHand 2 ∷ ReadsHand 2 ∷ TakesHand 2 ∷ ReadsHand 2 ∷ AsksToBind 2 ∷ EndsRow ∷ TakesBind 2 2 ∷ []; reaches = (enables-1, enables-1-is, (enables-2, enables-2-is, (enables-3, enables-3-is, (enables-4, enables-4-is, (enables-5, enables-5-is, (enables-6, enables-6-is, (enables-7, enables-7-is, (enables-8, enables-8-is, (enables-9, enables-9-is, (enables-10, enables-10-is, (enables-11, enables-11-is, (enables-12, enables-12-is, (enables-13, enables-13-is, (enables-14, enables-14-is, (enables-15, enables-15-is, (enables-16, enables-16-is, (enables-17, enables-17-is, (enables-18, enables-18-is, (enables-19, enables-19-is, (enables-20, enables-20-is, (enables-21, enables-21-is, (enables-22, enables-22-is, (enables-23, enables-23-is, (enables-24, enables-24-is, (enables-25, enables-25-is, (enables-26, enables-26-is, (enables-27, enables-27-is, (enables-28, enables-28-is, (enables-29, enables-29-is, (enables-30, enables-30-is, refl)))))))))))))))))))))))))))))) }

pub nobody_knows_it : (enables-30.sessions 1 ≡ Some (record { epoch = Some 1; counted = true; read = false; up = record beginning { is_open = false }; down = record beginning { is_open = false } })) × (enables-30.own ≡ None)
nobody_knows_it = (refl, refl)

-- the client closes behind its first header: the server answers the header and the footer into an ended pipe
abbrev pub closes-0 : View ℕ
closes-0 = nothing_yet

abbrev pub closes-1 : View ℕ
closes-1 = record closes-0 { here = Some 1; conns = with_at 1 (record { client = InHeader1; phase = Start; wires = Flow (Hdr ∷ []) ([]); ending = Stands; footed = false; gone = false }) closes-0.conns }

pub closes-1-is : IsDialled 1 closes-0 closes-1
closes-1-is = record { idle = refl; fresh = refl; gives = refl }

abbrev pub closes-2 : View ℕ
closes-2 = record closes-1 { conns = with_at 1 (record { client = InHeader1; phase = Start; wires = Stop (Hdr ∷ []) ([]) ([]) ([]); ending = Stands; footed = false; gone = false }) closes-1.conns; sessions = alter (ways_cut true (record { client = InHeader1; phase = Start; wires = Flow (Hdr ∷ []) ([]); ending = Stands; footed = false; gone = false }) 1 0) closes-1.sessions }

pub closes-2-is : IsCut 1 1 0 closes-1 closes-2
closes-2-is = record { conn = record { client = InHeader1; phase = Start; wires = Flow (Hdr ∷ []) ([]); ending = Stands; footed = false; gone = false }; is = refl; gives = refl }

abbrev pub closes-3 : View ℕ
closes-3 = record closes-2 { here = None }

pub closes-3-is : IsLetGo 1 closes-2 closes-3
closes-3-is = record { conn = record { client = InHeader1; phase = Start; wires = Stop (Hdr ∷ []) ([]) ([]) ([]); ending = Stands; footed = false; gone = false }; here = refl; is = refl; ended = refl; empty = refl; gives = refl }

abbrev pub closes-4 : View ℕ
closes-4 = record closes-3 { conns = with_at 1 (record { client = InHeader1; phase = Start; wires = Stop (Hdr ∷ Foot ∷ []) ([]) ([]) ([]); ending = Stands; footed = true; gone = false }) closes-3.conns }

pub closes-4-is : IsFooted 1 closes-3 closes-4
closes-4-is = record { conn = record { client = InHeader1; phase = Start; wires = Stop (Hdr ∷ []) ([]) ([]) ([]); ending = Stands; footed = false; gone = false }; left = refl; is = refl; unfooted = refl; stands = refl; untold = refl; whole = refl; gives = refl }

abbrev pub closes-5 : View ℕ
closes-5 = record closes-4 { conns = with_at 1 (record { client = InHeader1; phase = Sasl; wires = Stop (Foot ∷ []) ([]) ([]) (Head ∷ Feat ∷ []); ending = Stands; footed = true; gone = false }) closes-4.conns }

pub closes-5-is : IsUpHand 1 closes-4 closes-5
closes-5-is = record { conn = record { client = InHeader1; phase = Start; wires = Stop (Hdr ∷ Foot ∷ []) ([]) ([]) ([]); ending = Stands; footed = true; gone = false }; is = refl; word = Hdr; rest = Foot ∷ []; first = refl; phase = Sasl; puts = Head ∷ Feat ∷ []; hand = refl; gives = refl }

abbrev pub closes-6 : View ℕ
closes-6 = record closes-5 { conns = with_at 1 (record { client = InHeader1; phase = Sasl; wires = Stop ([]) ([]) (Foot ∷ []) (Head ∷ Feat ∷ End ∷ []); ending = Closes; footed = true; gone = false }) closes-5.conns }

pub closes-6-is : IsFootTaken 1 closes-5 closes-6
closes-6-is = record { conn = record { client = InHeader1; phase = Sasl; wires = Stop (Foot ∷ []) ([]) ([]) (Head ∷ Feat ∷ []); ending = Stands; footed = true; gone = false }; is = refl; off = refl; rest = []; first = refl; gives = refl }

pub closes-6-reached : LinkReached closes-6
closes-6-reached = record { moves = Dials 1 ∷ Cuts 1 1 0 ∷ LetsGo 1 ∷ Foots 1 ∷ TakesHand 1 ∷ TakesFoot 1 ∷ []; reaches = (closes-1, closes-1-is, (closes-2, closes-2-is, (closes-3, closes-3-is, (closes-4, closes-4-is, (closes-5, closes-5-is, (closes-6, closes-6-is, refl)))))) }

-- the server's queue is full with a stanza under way; the connection that it shut is cut, and what was to come is lost
abbrev pub fills-0 : View ℕ
fills-0 = nothing_yet

abbrev pub fills-1 : View ℕ
fills-1 = record fills-0 { here = Some 1; conns = with_at 1 (record { client = InHeader1; phase = Start; wires = Flow (Hdr ∷ []) ([]); ending = Stands; footed = false; gone = false }) fills-0.conns }

pub fills-1-is : IsDialled 1 fills-0 fills-1
fills-1-is = record { idle = refl; fresh = refl; gives = refl }

abbrev pub fills-2 : View ℕ
fills-2 = record fills-1 { conns = with_at 1 (record { client = InHeader1; phase = Sasl; wires = Flow ([]) (Head ∷ Feat ∷ []); ending = Stands; footed = false; gone = false }) fills-1.conns }

pub fills-2-is : IsUpHand 1 fills-1 fills-2
fills-2-is = record { conn = record { client = InHeader1; phase = Start; wires = Flow (Hdr ∷ []) ([]); ending = Stands; footed = false; gone = false }; is = refl; word = Hdr; rest = []; first = refl; phase = Sasl; puts = Head ∷ Feat ∷ []; hand = refl; gives = refl }

abbrev pub fills-3 : View ℕ
fills-3 = record fills-2 { conns = with_at 1 (record { client = InFeatures1; phase = Sasl; wires = Flow ([]) (Feat ∷ []); ending = Stands; footed = false; gone = false }) fills-2.conns }

pub fills-3-is : IsDownHand 1 fills-2 fills-3
fills-3-is = record { conn = record { client = InHeader1; phase = Sasl; wires = Flow ([]) (Head ∷ Feat ∷ []); ending = Stands; footed = false; gone = false }; is = refl; here = refl; word = Head; rest = Feat ∷ []; first = refl; early = tt; client = InFeatures1; puts = []; hand = refl; gives = refl }

abbrev pub fills-4 : View ℕ
fills-4 = record fills-3 { conns = with_at 1 (record { client = InAuth; phase = Sasl; wires = Flow (Auth ∷ []) ([]); ending = Stands; footed = false; gone = false }) fills-3.conns }

pub fills-4-is : IsDownHand 1 fills-3 fills-4
fills-4-is = record { conn = record { client = InFeatures1; phase = Sasl; wires = Flow ([]) (Feat ∷ []); ending = Stands; footed = false; gone = false }; is = refl; here = refl; word = Feat; rest = []; first = refl; early = tt; client = InAuth; puts = Auth ∷ []; hand = refl; gives = refl }

abbrev pub fills-5 : View ℕ
fills-5 = record fills-4 { conns = with_at 1 (record { client = InAuth; phase = Challenge; wires = Flow ([]) (Chal ∷ []); ending = Stands; footed = false; gone = false }) fills-4.conns }

pub fills-5-is : IsUpHand 1 fills-4 fills-5
fills-5-is = record { conn = record { client = InAuth; phase = Sasl; wires = Flow (Auth ∷ []) ([]); ending = Stands; footed = false; gone = false }; is = refl; word = Auth; rest = []; first = refl; phase = Challenge; puts = Chal ∷ []; hand = refl; gives = refl }

abbrev pub fills-6 : View ℕ
fills-6 = record fills-5 { conns = with_at 1 (record { client = InResponse; phase = Challenge; wires = Flow (Resp ∷ []) ([]); ending = Stands; footed = false; gone = false }) fills-5.conns }

pub fills-6-is : IsDownHand 1 fills-5 fills-6
fills-6-is = record { conn = record { client = InAuth; phase = Challenge; wires = Flow ([]) (Chal ∷ []); ending = Stands; footed = false; gone = false }; is = refl; here = refl; word = Chal; rest = []; first = refl; early = tt; client = InResponse; puts = Resp ∷ []; hand = refl; gives = refl }

abbrev pub fills-7 : View ℕ
fills-7 = record fills-6 { conns = with_at 1 (record { client = InResponse; phase = Restart; wires = Flow ([]) (Succ ∷ []); ending = Stands; footed = false; gone = false }) fills-6.conns }

pub fills-7-is : IsUpHand 1 fills-6 fills-7
fills-7-is = record { conn = record { client = InResponse; phase = Challenge; wires = Flow (Resp ∷ []) ([]); ending = Stands; footed = false; gone = false }; is = refl; word = Resp; rest = []; first = refl; phase = Restart; puts = Succ ∷ []; hand = refl; gives = refl }

abbrev pub fills-8 : View ℕ
fills-8 = record fills-7 { conns = with_at 1 (record { client = InHeader2; phase = Restart; wires = Flow (Hdr ∷ []) ([]); ending = Stands; footed = false; gone = false }) fills-7.conns }

pub fills-8-is : IsDownHand 1 fills-7 fills-8
fills-8-is = record { conn = record { client = InResponse; phase = Restart; wires = Flow ([]) (Succ ∷ []); ending = Stands; footed = false; gone = false }; is = refl; here = refl; word = Succ; rest = []; first = refl; early = tt; client = InHeader2; puts = Hdr ∷ []; hand = refl; gives = refl }

abbrev pub fills-9 : View ℕ
fills-9 = record fills-8 { conns = with_at 1 (record { client = InHeader2; phase = Ready; wires = Flow ([]) (Head ∷ Feat ∷ []); ending = Stands; footed = false; gone = false }) fills-8.conns }

pub fills-9-is : IsUpHand 1 fills-8 fills-9
fills-9-is = record { conn = record { client = InHeader2; phase = Restart; wires = Flow (Hdr ∷ []) ([]); ending = Stands; footed = false; gone = false }; is = refl; word = Hdr; rest = []; first = refl; phase = Ready; puts = Head ∷ Feat ∷ []; hand = refl; gives = refl }

abbrev pub fills-10 : View ℕ
fills-10 = record fills-9 { conns = with_at 1 (record { client = InFeatures2; phase = Ready; wires = Flow ([]) (Feat ∷ []); ending = Stands; footed = false; gone = false }) fills-9.conns }

pub fills-10-is : IsDownHand 1 fills-9 fills-10
fills-10-is = record { conn = record { client = InHeader2; phase = Ready; wires = Flow ([]) (Head ∷ Feat ∷ []); ending = Stands; footed = false; gone = false }; is = refl; here = refl; word = Head; rest = Feat ∷ []; first = refl; early = tt; client = InFeatures2; puts = []; hand = refl; gives = refl }

abbrev pub fills-11 : View ℕ
fills-11 = record fills-10 { conns = with_at 1 (record { client = InBind; phase = Ready; wires = Flow (Bind ∷ []) ([]); ending = Stands; footed = false; gone = false }) fills-10.conns }

pub fills-11-is : IsAskBind 1 fills-10 fills-11
fills-11-is = record { conn = record { client = InFeatures2; phase = Ready; wires = Flow ([]) (Feat ∷ []); ending = Stands; footed = false; gone = false }; is = refl; here = refl; rest = []; first = refl; client = refl; none = refl; gives = refl }

abbrev pub fills-12 : View ℕ
fills-12 = record fills-11 { conns = with_at 1 (record { client = InBind; phase = (AtSession 1); wires = Flow ([]) (Bound 1 ∷ []); ending = Stands; footed = false; gone = false }) fills-11.conns; row = Some (record { number = 1; on = Some 1; counted = false; acked = 0; handled = 0; queue = [] }); sessions = with_at 1 unread fills-11.sessions; free = 2 }

pub fills-12-is : IsBound 1 1 fills-11 fills-12
fills-12-is = record { conn = record { client = InBind; phase = Ready; wires = Flow (Bind ∷ []) ([]); ending = Stands; footed = false; gone = false }; is = refl; rest = []; first = refl; phase = refl; none = refl; fresh = refl; rises = omega arith; gives = refl }

abbrev pub fills-13 : View ℕ
fills-13 = record fills-12 { conns = with_at 1 (record { client = InEnable; phase = (AtSession 1); wires = Flow (Enable ∷ []) ([]); ending = Stands; footed = false; gone = false }) fills-12.conns; epoch = 1; sessions = alter (λ q s. record s { epoch = if has (Some 1) q then Some 1 else s.epoch }) fills-12.sessions }

pub fills-13-is : IsReadBound 1 1 fills-12 fills-13
fills-13-is = record { conn = record { client = InBind; phase = (AtSession 1); wires = Flow ([]) (Bound 1 ∷ []); ending = Stands; footed = false; gone = false }; is = refl; here = refl; rest = []; first = refl; client = refl; gives = refl }

abbrev pub fills-14 : View ℕ
fills-14 = record fills-13 { conns = with_at 1 (record { client = InEnable; phase = (AtSession 1); wires = Flow ([]) (Enabled 1 ∷ []); ending = Stands; footed = false; gone = false }) fills-13.conns; row = Some (record { number = 1; on = Some 1; counted = true; acked = 0; handled = 0; queue = [] }); sessions = alter (λ q s. record s { counted = if has (Some 1) q then true else s.counted; up = record s.up { is_open = if has (Some 1) q then true else s.up.is_open }; down = record s.down { is_open = if has (Some 1) q then true else s.down.is_open } }) fills-13.sessions }

pub fills-14-is : IsEnabled 1 fills-13 fills-14
fills-14-is = record { conn = record { client = InEnable; phase = (AtSession 1); wires = Flow (Enable ∷ []) ([]); ending = Stands; footed = false; gone = false }; is = refl; rest = []; first = refl; row = record { number = 1; on = Some 1; counted = false; acked = 0; handled = 0; queue = [] }; is_row = refl; on = refl; uncounted = refl; gives = refl }

abbrev pub fills-15 : View ℕ
fills-15 = record fills-14 { conns = with_at 1 (record { client = (InOnline 1); phase = (AtSession 1); wires = Flow ([]) ([]); ending = Stands; footed = false; gone = false }) fills-14.conns; own = Some (record { number = 1; acked = 0; handled = 0; queue = [] }); sessions = alter (λ q s. record s { read = if has (Some 1) q then true else s.read }) fills-14.sessions }

pub fills-15-is : IsReadEnabled 1 1 fills-14 fills-15
fills-15-is = record { conn = record { client = InEnable; phase = (AtSession 1); wires = Flow ([]) (Enabled 1 ∷ []); ending = Stands; footed = false; gone = false }; is = refl; here = refl; rest = []; first = refl; client = refl; gives = refl }

abbrev pub fills-16 : View ℕ
fills-16 = record fills-15 { conns = with_at 1 (record { client = (InOnline 1); phase = (AtSession 1); wires = Flow ([]) (Down (St 20) ∷ []); ending = Stands; footed = false; gone = false }) fills-15.conns; row = Some (record { number = 1; on = Some 1; counted = true; acked = 0; handled = 0; queue = 20 ∷ [] }); sessions = alter (λ q s. record s { down = put_if (has (Some 1) q) 20 s.down }) fills-15.sessions }

pub fills-16-is : IsServerPut 1 20 fills-15 fills-16
fills-16-is = record { conn = record { client = (InOnline 1); phase = (AtSession 1); wires = Flow ([]) ([]); ending = Stands; footed = false; gone = false }; is = refl; row = record { number = 1; on = Some 1; counted = true; acked = 0; handled = 0; queue = [] }; is_row = refl; on = refl; counted = refl; gives = refl }

abbrev pub fills-17 : View ℕ
fills-17 = record fills-16 { conns = with_at 1 (record { client = (InOnline 1); phase = (AtSession 1); wires = Stop ([]) (Down (St 20) ∷ Err Constraint ∷ End ∷ []) ([]) ([]); ending = Errs Constraint; footed = false; gone = false }) fills-16.conns; row = Some (record { number = 1; on = None; counted = true; acked = 0; handled = 0; queue = 20 ∷ [] }); sessions = alter (λ q s. lost_if (has (Some 1) q) (s.counted && (true && has (carries {A = ℕ} (record { client = (InOnline 1); phase = (AtSession 1); wires = Flow ([]) (Down (St 20) ∷ []); ending = Stands; footed = false; gone = false })) q)) s) fills-16.sessions }

pub fills-17-is : IsDetached 1 (Errs Constraint) fills-16 fills-17
fills-17-is = record { conn = record { client = (InOnline 1); phase = (AtSession 1); wires = Flow ([]) (Down (St 20) ∷ []); ending = Stands; footed = false; gone = false }; is = refl; row = record { number = 1; on = Some 1; counted = true; acked = 0; handled = 0; queue = 20 ∷ [] }; is_row = refl; on = refl; counted = refl; reason = tt; gives = refl }

abbrev pub fills-18 : View ℕ
fills-18 = record fills-17 { row = None }

pub fills-18-is : IsRowEnded fills-17 fills-18
fills-18-is = record { row = record { number = 1; on = None; counted = true; acked = 0; handled = 0; queue = 20 ∷ [] }; is_row = refl; off = refl; gives = refl }

abbrev pub fills-19 : View ℕ
fills-19 = record fills-18 { conns = with_at 1 (record { client = (InOnline 1); phase = (AtSession 1); wires = Stop ([]) ([]) ([]) (Down (St 20) ∷ Err Constraint ∷ End ∷ []); ending = Errs Constraint; footed = false; gone = false }) fills-18.conns; sessions = alter (ways_cut true (record { client = (InOnline 1); phase = (AtSession 1); wires = Stop ([]) (Down (St 20) ∷ Err Constraint ∷ End ∷ []) ([]) ([]); ending = Errs Constraint; footed = false; gone = false }) 0 0) fills-18.sessions }

pub fills-19-is : IsCut 1 0 0 fills-18 fills-19
fills-19-is = record { conn = record { client = (InOnline 1); phase = (AtSession 1); wires = Stop ([]) (Down (St 20) ∷ Err Constraint ∷ End ∷ []) ([]) ([]); ending = Errs Constraint; footed = false; gone = false }; is = refl; gives = refl }

abbrev pub fills-20 : View ℕ
fills-20 = record fills-19 { here = None }

pub fills-20-is : IsLetGo 1 fills-19 fills-20
fills-20-is = record { conn = record { client = (InOnline 1); phase = (AtSession 1); wires = Stop ([]) ([]) ([]) (Down (St 20) ∷ Err Constraint ∷ End ∷ []); ending = Errs Constraint; footed = false; gone = false }; here = refl; is = refl; ended = refl; empty = refl; gives = refl }

pub fills-20-reached : LinkReached fills-20
fills-20-reached = record { moves = Dials 1 ∷ TakesHand 1 ∷ ReadsHand 1 ∷ ReadsHand 1 ∷ TakesHand 1 ∷ ReadsHand 1 ∷ TakesHand 1 ∷ ReadsHand 1 ∷ TakesHand 1 ∷ ReadsHand 1 ∷ AsksToBind 1 ∷ TakesBind 1 1 ∷ ReadsBound 1 1 ∷ TakesEnable 1 ∷ ReadsEnabled 1 1 ∷ Serves 1 20 ∷ Detaches 1 (Errs Constraint) ∷ EndsRow ∷ Cuts 1 0 0 ∷ LetsGo 1 ∷ []; reaches = (fills-1, fills-1-is, (fills-2, fills-2-is, (fills-3, fills-3-is, (fills-4, fills-4-is, (fills-5, fills-5-is, (fills-6, fills-6-is, (fills-7, fills-7-is, (fills-8, fills-8-is, (fills-9, fills-9-is, (fills-10, fills-10-is, (fills-11, fills-11-is, (fills-12, fills-12-is, (fills-13, fills-13-is, (fills-14, fills-14-is, (fills-15, fills-15-is, (fills-16, fills-16-is, (fills-17, fills-17-is, (fills-18, fills-18-is, (fills-19, fills-19-is, (fills-20, fills-20-is, refl)))))))))))))))))))) }

pub put_and_lost : fills-20.sessions 1 ≡ Some (record { epoch = Some 1; counted = true; read = true; up = record beginning { is_open = false }; down = record { put = 20 ∷ []; acked = 0; got = []; way = []; is_open = false; stated = [] } })
put_and_lost = refl
