-- The state of the machine that a framer stands for.
use Rattle.std.specs.Prelude.{List, Vec, map, reverse, string_bytes}
use Rattle.std.specs.declared.alloc.Global.{Global}
use Rattle.xml_names.specs.Scopes.{Scope}
use Rattle.xml_names.specs.declared.scopes.Binding.{Binding}
use Rattle.xml_framer.specs.States.{State}
use Rattle.xml_framer.specs.declared.framer.Framer.TheInside.{Inside}

abbrev pub own_of : Vec Binding Global → Scope
own_of own = own.items

abbrev pub scopes_of : List (Vec Binding Global) → List Scope
scopes_of scopes = map own_of (reverse scopes)

abbrev pub state_of : Inside → State
state_of f = record {
  limits = f.limits;
  positions = f.positions;
  lexical = f.lexical;
  token = f.token.items;
  pending = f.pending;
  chars = string_bytes f.chars;
  here = f.opens.here;
  below = f.opens.below;
  scopes = scopes_of f.scopes;
  name = f.name;
  fault = f.fault;
}
