-- The first id that the account itself gave, element by element.
use Rattle.std.proofs.Common.{◌≡◌, ℕ, Bool, true, false, List, ◌∷◌, Option, Some, None, Result, Ok, Err, refl, if◌then◌else◌, ap}
use Rattle.std.specs.Str.{bytes_eq}
use Rattle.cl_handlers.specs.MessageRows.{id_given, own_id}
use Rattle.im_extensions.specs.Readings.{stanza_id_read}
use Rattle.im_extensions.specs.declared.ids.StanzaId.{StanzaId}
use Rattle.im_payload.specs.declared.fault.ExtFault.{ExtFault}
use Rattle.xml_trees.specs.Trees.{Elem}

chosen : (own : Bool) (v id : List ℕ) (other : Option (List ℕ)) → (if own then Some v else None) ≡ Some id → (if own then Some v else other) ≡ Some id
chosen true v id other e = e
chosen false v id other e = absurd (cc e)

passed : (own : Bool) (v : List ℕ) (other : Option (List ℕ)) → (if own then Some v else None) ≡ None → (if own then Some v else other) ≡ other
passed true v other e = absurd (cc e)
passed false v other e = refl

given_here : (bare id : List ℕ) (read : Result StanzaId ExtFault) (other : Option (List ℕ)) → id_given bare read None ≡ Some id → id_given bare read other ≡ Some id
given_here bare id (Ok v) other e = chosen (bytes_eq v.by bare) v.id id other e
given_here bare id (Err why) other e = absurd (cc e)

given_after : (bare : List ℕ) (read : Result StanzaId ExtFault) (other : Option (List ℕ)) → id_given bare read None ≡ None → id_given bare read other ≡ other
given_after bare (Ok v) other e = passed (bytes_eq v.by bare) v.id other e
given_after bare (Err why) other e = refl

pub own_id_here : (bare id : List ℕ) (e : Elem) (rest : List Elem) → id_given bare (stanza_id_read e) None ≡ Some id → own_id bare (e ∷ rest) ≡ Some id
own_id_here bare id e rest given = given_here bare id (stanza_id_read e) (own_id bare rest) given

pub own_id_after : (bare : List ℕ) (e : Elem) (rest : List Elem) → id_given bare (stanza_id_read e) None ≡ None → own_id bare (e ∷ rest) ≡ own_id bare rest
own_id_after bare e rest given = given_after bare (stanza_id_read e) (own_id bare rest) given
