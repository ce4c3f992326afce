-- The definitions at worked schedules, by evaluation.
use Rattle.std.proofs.Common.{◌≡◌, ℕ, List, [], ◌∷◌, ◌++◌, Ok, Err, refl, codes, Result}
use Rattle.std.specs.Fmt.{digits}
use Rattle.std.specs.List.{flat_map}
use Rattle.std.specs.Str.{is_utf8, chars}
use Rattle.base_lemmas.specs.Hexadecimal.{hex16_of}
use Rattle.cmd_direct.specs.Direct.{direct_report}
use Rattle.cmd_schedule.specs.Reading.{read_heading, read_version, read_one, read_two, read_mode, read_line, read_words, read_account, read_device, read_message, read_say, read_private, read_catchup, read_tick}
use Rattle.cmd_report.specs.ReportText.{text_of}
use Rattle.cmd_schedule.specs.WireReading.{reading}
use Rattle.cmd_schedule.specs.declared.fault.ScheduleFault.{ScheduleFault}
use Rattle.cmd_schedule.specs.declared.schedule.Schedule.{Schedule}
use Rattle.cmd_schedule.specs.declared.schedule.Schedule.TheVariants.{Direct, Wire}
use Rattle.cmd_schedule.specs.declared.fault.ScheduleFault.TheVariants.{BadLine}
use Rattle.cmd_schedule.specs.declared.fault.LineWhy.TheVariants as why

-- each text with LF behind it
abbrev ended : List (List ℕ) → List ℕ
ended lines = flat_map (λ line. line ++ 10 ∷ []) lines

-- the report of a text, and nothing where it is refused
abbrev replayed : Result Schedule ScheduleFault → List ℕ
replayed (Ok (Direct schedule)) = text_of (direct_report schedule)
replayed (Ok (Wire schedule)) = []
replayed (Err e) = []

abbrev first_schedule : List ℕ
first_schedule = ended (
    codes "xmpp-schedule 1 direct" ∷
    codes "account alice" ∷
    codes "account bob" ∷
    codes "device phone alice" ∷
    codes "device desk bob" ∷
    codes "say phone bob hello" ∷
    codes "tick 5" ∷
    codes "private desk alice hi there" ∷
    codes "say phone alice note to self" ∷
    codes "catchup phone 2" ∷ [])

three_archived_and_two_pages : replayed (reading first_schedule) ≡ ended (
    codes "xmpp-report 1 direct" ∷
    codes "take phone 1 1 bob" ∷
    codes "take desk 1 1 alice" ∷
    codes "take phone 1 2 alice" ∷
    codes "account alice 3" ∷
    codes "entry 0000000000000001 0 alice@chat.example/phone bob@chat.example phone.1.1 hello" ∷
    codes "entry 0000000000000002 5 bob@chat.example/desk alice@chat.example desk.1.1 hi there" ∷
    codes "entry 0000000000000003 5 alice@chat.example/phone alice@chat.example phone.1.2 note to self" ∷
    codes "account bob 2" ∷
    codes "entry 0000000000000001 0 alice@chat.example/phone bob@chat.example phone.1.1 hello" ∷
    codes "entry 0000000000000002 5 bob@chat.example/desk alice@chat.example desk.1.1 hi there" ∷
    codes "device phone alice 1 yes" ∷
    codes "said 1 1 acknowledged bob hello" ∷
    codes "said 1 2 acknowledged alice note to self" ∷
    codes "page - 2 more" ∷
    codes "page 0000000000000002 1 complete 3" ∷
    codes "logged 0000000000000001 0 alice@chat.example/phone bob@chat.example phone.1.1 hello" ∷
    codes "logged 0000000000000002 5 bob@chat.example/desk alice@chat.example desk.1.1 hi there" ∷
    codes "logged 0000000000000003 5 alice@chat.example/phone alice@chat.example phone.1.2 note to self" ∷
    codes "device desk bob 1 yes" ∷
    codes "said 1 1 acknowledged alice hi there" ∷
    codes "end" ∷ [])
unfolding reading read_heading read_version read_one read_two read_mode read_line read_words read_account read_device read_message read_say read_private read_catchup read_tick is_utf8 chars text_of direct_report digits hex16_of lib.Utf8.encode
three_archived_and_two_pages = refl

nothing_declared_reports_nothing : replayed (reading (ended (codes "xmpp-schedule 2 direct 10" ∷ []))) ≡ ended (codes "xmpp-report 2 direct 10" ∷ codes "end" ∷ [])
unfolding reading read_heading read_version read_one read_two read_mode read_line read_words read_account read_device read_message read_say read_private read_catchup read_tick is_utf8 chars text_of direct_report digits hex16_of lib.Utf8.encode
nothing_declared_reports_nothing = refl

an_empty_archive_is_complete_at_once :
    replayed (reading (ended (codes "xmpp-schedule 1 direct" ∷ codes "account alice" ∷ codes "device phone alice" ∷ codes "catchup phone 5" ∷ [])))
    ≡ ended (codes "xmpp-report 1 direct" ∷ codes "account alice 0" ∷ codes "device phone alice 1 yes" ∷ codes "page - 0 complete 0" ∷ codes "end" ∷ [])
unfolding reading read_heading read_version read_one read_two read_mode read_line read_words read_account read_device read_message read_say read_private read_catchup read_tick is_utf8 chars text_of direct_report digits hex16_of lib.Utf8.encode
an_empty_archive_is_complete_at_once = refl

-- the first bad line, with its first reason
an_unknown_device : reading (ended (codes "xmpp-schedule 1 direct" ∷ codes "account bob" ∷ codes "say nobody bob hi" ∷ codes "account bob" ∷ [])) ≡ Err (BadLine 3 why.Unknown)
unfolding reading read_heading read_version read_one read_two read_mode read_line read_words read_account read_device read_message read_say read_private read_catchup read_tick is_utf8 chars lib.Utf8.encode
an_unknown_device = refl
