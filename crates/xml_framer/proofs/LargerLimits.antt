-- A tag within limits is within larger ones, and says the same.
use Rattle.std.proofs.Common.{◌≡◌, ℕ, Bool, ◌<◌, ◌≤◌, ◌^◌, List, Ok, All, length, arith}
use Rattle.xml_names.proofs.StartLaws as laws
use Rattle.xml_names.specs.Grammar.{IsShort}
use Rattle.xml_names.specs.Scopes.{Scope}
use Rattle.xml_names.specs.Starts.{Tag, start_of}
use Rattle.xml_names.specs.declared.limits.TagLimits.{TagLimits}
use Rattle.xml_names.specs.Headers.{opens_stream}
use Rattle.xml_framer.specs.States.{State}
use Rattle.xml_framer.specs.TagSteps.{is_header, largest_limits, scope_in, tag_here, tag_limits}

pub shorter : (a b : ℕ) (own : Scope) → a ≤ b → All (IsShort a) own → All (IsShort b) own
shorter a b own le all = λ k d h. let first = all k d h in omega arith

pub in_largest : (limits : TagLimits) (scope : Scope) (bytes : List ℕ) (t : Tag) → limits.attributes < 2 ^ 32 → limits.namespace_bytes < 2 ^ 32
    → start_of limits scope bytes ≡ Ok t → start_of largest_limits scope bytes ≡ Ok t
in_largest limits scope bytes t few short e =
    let w = (laws.read limits scope bytes t).0 e in
    let most : length w.0 ≤ limits.attributes = w.2.0 in
    (laws.read largest_limits scope bytes t).1 (w.0, w.1, (omega arith, shorter limits.namespace_bytes 4294967295 t.bindings (omega arith) w.2.1))

pub header_is : (s : State) (t : Tag) (r : Bool) → s.limits.attributes < 2 ^ 32 → s.limits.namespace_bytes < 2 ^ 32 → tag_here s ≡ Ok t → r ≡ opens_stream t → r ≡ is_header s
unfolding is_header
header_is s t r few short e is =
    let larger : start_of largest_limits (scope_in s.scopes) s.token ≡ Ok t = in_largest (tag_limits s.limits) (scope_in s.scopes) s.token t few short e in
    rw larger is
