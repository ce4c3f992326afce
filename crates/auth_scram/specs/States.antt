-- What each part of a message may go on with, and where it may end.
use Rattle.std.specs.Prelude.{ℕ, ◌==◌, Bool, true, false, ◌&&◌, not, Option, Some, None, if◌then◌else◌}
use Rattle.std.specs.Option.{option_map}
use Rattle.auth_scram.specs.Classes.{is_within, is_printable, is_letter, is_digit, is_count_start, is_binding, is_value_ascii}
use Rattle.auth_scram.specs.declared.classes.OneOrMore.{OneOrMore}
use Rattle.auth_scram.specs.declared.classes.Class.{Class}
use Rattle.auth_scram.specs.declared.classes.Class.TheVariants.{Printable, Binding}
use Rattle.auth_scram.specs.declared.classes.Count.{Count}
use Rattle.auth_scram.specs.declared.classes.Count.TheVariants as count
use Rattle.auth_scram.specs.declared.values.Tails.{Tails}
use Rattle.auth_scram.specs.declared.values.Tails.TheVariants.{One, Two, Three, AfterE0, AfterED, AfterF0, AfterF4}
use Rattle.auth_scram.specs.declared.values.Until.{Until}
use Rattle.auth_scram.specs.declared.values.Until.TheVariants.{End, Proof}
use Rattle.auth_scram.specs.declared.values.Extensions.{Extensions}
use Rattle.auth_scram.specs.declared.values.Extensions.TheVariants as extensions
use Rattle.auth_scram.specs.declared.names.Name.{Name}
use Rattle.auth_scram.specs.declared.names.Name.TheVariants as name

-- a state, if the byte may stand there
abbrev pub where_so : {S : Type 0} → Bool → S → Option S
where_so b s = if b then Some s else None

abbrev pub is_of : Class → ℕ → Bool
is_of Printable b = is_printable b
is_of Binding b = is_binding b

-- one or more bytes of a class
abbrev pub class_goes_on : OneOrMore → ℕ → Option OneOrMore
class_goes_on s b = where_so (is_of s.class b) (record { class = s.class; some = true })

abbrev pub class_may_end : OneOrMore → Bool
class_may_end s = s.some

-- a number without leading zeros
abbrev pub count_goes_on : Count → ℕ → Option Count
count_goes_on count.Start b = where_so (is_count_start b) count.Digits
count_goes_on count.Digits b = where_so (is_digit b) count.Digits

abbrev pub count_may_end : Count → Bool
count_may_end count.Start = false
count_may_end count.Digits = true

-- RFC 3629, section 4: what follows the first byte of a character of two bytes or more
abbrev pub tails_of : ℕ → Option Tails
tails_of b =
    if is_within 0xC2 0xDF b then Some One
    else (if b == 0xE0 then Some AfterE0
    else (if b == 0xED then Some AfterED
    else (if is_within 0xE1 0xEF b then Some Two
    else (if b == 0xF0 then Some AfterF0
    else (if is_within 0xF1 0xF3 b then Some Three
    else where_so (b == 0xF4) AfterF4)))))

-- what is to come behind one more byte of a character: nothing, or further bytes
abbrev pub tails_step : Tails → ℕ → Option (Option Tails)
tails_step One b = where_so (is_within 0x80 0xBF b) None
tails_step Two b = where_so (is_within 0x80 0xBF b) (Some One)
tails_step Three b = where_so (is_within 0x80 0xBF b) (Some Two)
tails_step AfterE0 b = where_so (is_within 0xA0 0xBF b) (Some One)
tails_step AfterED b = where_so (is_within 0x80 0x9F b) (Some One)
tails_step AfterF0 b = where_so (is_within 0x90 0xBF b) (Some Two)
tails_step AfterF4 b = where_so (is_within 0x80 0x8F b) (Some Two)

-- what is to come behind the first byte of a character of a value
abbrev pub character_step : ℕ → Option (Option Tails)
character_step b = if is_value_ascii b then Some None else option_map (λ tails. Some tails) (tails_of b)

-- the state behind a whole character, or inside one
abbrev pub placed : {S : Type 0} → S → (Tails → S) → Option Tails → S
placed whole inside None = whole
placed whole inside (Some tails) = inside tails

-- a name: characters but `,` and `=`, for which `=2C` and `=3D` stand
abbrev pub name_starts : ℕ → Option Name
name_starts b = if b == 61 then Some name.Escape else option_map (placed name.Between name.Inside) (character_step b)

abbrev pub name_goes_on : Name → ℕ → Option Name
name_goes_on name.Start b = name_starts b
name_goes_on name.Between b = name_starts b
name_goes_on (name.Inside tails) b = option_map (placed name.Between name.Inside) (tails_step tails b)
name_goes_on name.Escape b = if b == 50 then Some name.EscapedComma else where_so (b == 51) name.EscapedEquals
name_goes_on name.EscapedComma b = where_so (b == 67) name.Between
name_goes_on name.EscapedEquals b = where_so (b == 68) name.Between

abbrev pub name_may_end : Name → Bool
name_may_end name.Between = true
name_may_end _ = false

-- the letter of an extension, or the `p` of a proof
abbrev pub extension_starts : Until → ℕ → Option Extensions
extension_starts End b = where_so (is_letter b && not (b == 109)) (extensions.Equals End)
extension_starts Proof b =
    if b == 112 then Some extensions.ProofEquals else where_so (is_letter b && not (b == 109)) (extensions.Equals Proof)

abbrev pub in_value : Until → Option Tails → Extensions
in_value until = placed (extensions.Value until) (extensions.Inside until)

-- extensions, each behind a comma; up to the end of the message, or up to `,p=`
abbrev pub extensions_go_on : Extensions → ℕ → Option Extensions
extensions_go_on (extensions.Comma until) b = where_so (b == 44) (extensions.Letter until)
extensions_go_on (extensions.Letter until) b = extension_starts until b
extensions_go_on (extensions.Equals until) b = where_so (b == 61) (extensions.First until)
extensions_go_on (extensions.First until) b = option_map (in_value until) (character_step b)
extensions_go_on (extensions.Value until) b =
    if b == 44 then Some (extensions.Letter until) else option_map (in_value until) (character_step b)
extensions_go_on (extensions.Inside until tails) b = option_map (in_value until) (tails_step tails b)
extensions_go_on extensions.ProofEquals b = where_so (b == 61) extensions.ProofBegins
extensions_go_on extensions.ProofBegins b = None

abbrev pub is_end : Until → Bool
is_end End = true
is_end Proof = false

abbrev pub extensions_may_end : Extensions → Bool
extensions_may_end (extensions.Comma until) = is_end until
extensions_may_end (extensions.Value until) = is_end until
extensions_may_end extensions.ProofBegins = true
extensions_may_end _ = false
