pub use Rattle.base_io.specs.Listed
-- law: a schedule's history beside events of the two applications
pub mod Simulation
pub use Rattle.sim_1_applications.specs.Runs
-- law: what the devices of a wire schedule refused
pub mod Refusals
pub mod Answered
-- law: the report of a world of bytes beside one of the applications
pub mod Reports
-- law: what it shows
pub mod ShownWorlds
-- law: the sessions of a device in a world
pub mod Pairs
pub mod Messages
-- law: and along a history
pub mod Courses
-- law: what changes nothing
pub mod Untouched
-- law: what a late word changes
pub mod LateWords
-- law: what is taken behind a bind
pub mod Bound
-- law: which faults there are
pub mod Faults
-- law: what a run brings
pub mod LastLines
-- law: what the laws say
pub mod BindsLaws
pub mod FaultsLaws
pub mod LateWordsLaws
pub mod RefusedLinesLaws
pub mod ReportsOfWorldsLaws
pub mod RunsLaws
pub mod LawsKeptLaws
-- law: what the tries of intents come to
pub mod Tries
pub mod IntentsLaws
-- law: what stays open in a run
pub mod Calm
pub mod CalmLaws
