-- The id of a session that the server names can be answered.
use Rattle.std.proofs.Common.{◌≡◌, ℕ, Bool, true, false, List, [], ◌∷◌, codes, Option, Some, None, Ok, refl, sym, subst, arith}
use Rattle.base_lemmas.proofs.HexDigits.{length-hex16_of}
use Rattle.base_lemmas.specs.Hexadecimal.{hex16_of}
use Rattle.sim_3_images.proofs.AnsweredItems.{no_challenge, no_message, no_request}
use Rattle.sim_3_images.proofs.AnsweredRows.{either_acts, refusing_answers}
use Rattle.sim_3_images.proofs.AnsweredSteps.{ActsAnswer}
use Rattle.sim_3_images.specs.Relayable.{IsAnswered}
use Rattle.law_limits.specs.Answerable.{IsAnswerable}
use Rattle.sm_resumption.specs.declared.answers.TheConstants.{RESUMABLE_SECONDS}
use Rattle.im_extensions.specs.Readings.{enabled_read, enabled_with}
use Rattle.im_extensions.specs.StreamManagement.{enabled_elem}
use Rattle.im_extensions.specs.declared.stream_management.Enabled.{Enabled}
use Rattle.sim_3_items.specs.ItemWorlds.{itself}
use Rattle.sm_live.specs.declared.told.SessionInfo.{SessionInfo}
use Rattle.im_payload.specs.Shapes.{attr_or_empty}
use Rattle.law_limits.specs.Bounds.{IsTextWithin, most_id}
use Rattle.law_limits.proofs.Readings.{this_is}
use Rattle.srv_handlers.specs.Managements.{at_enable, enabled_as}
use Rattle.law_limits.proofs.Characters.{printable_characters}
use Rattle.law_limits.proofs.Numerals.{said_hex}
use Rattle.im_stanza.specs.declared.conditions.Condition.TheVariants.{UnexpectedRequest}
use Rattle.xml_trees.specs.Trees.{Elem}

with_is : (e : Elem) (o : Option (Option ℕ)) (v : Enabled) → enabled_with e o ≡ Ok v → attr_or_empty (codes "id") e ≡ v.id
with_is e None v is = absurd cc
with_is e (Some max) v is = cc

session_answers : (e : Elem) (v : Enabled) → IsTextWithin most_id (attr_or_empty (codes "id") e) → enabled_read e ≡ Ok v → IsTextWithin most_id v.id
session_answers e v short is = subst (IsTextWithin most_id) (with_is e _ v (this_is _ _ v is).1) short

resumable_id : (id : List ℕ) (seconds : ℕ) → attr_or_empty (codes "id") (enabled_elem (record { id = id; resume = true; max = Some seconds })) ≡ id
resumable_id [] seconds = refl
resumable_id (c ∷ cs) seconds = refl

hex_within : (n : ℕ) → IsTextWithin most_id (hex16_of n)
hex_within n = let said = said_hex n in let long = length-hex16_of n in record { characters = said.characters; short = omega (arith, long) }

named_answers : (v : Enabled) → IsTextWithin most_id (attr_or_empty (codes "id") (enabled_elem v)) → IsAnswerable (enabled_elem v)
named_answers v short = record {
  request = λ q is asks. absurd (no_request (enabled_elem v) refl q is);
  result = λ m given r is found reads. absurd (no_message (enabled_elem v) refl m is);
  session = λ w is. session_answers (enabled_elem v) w short is;
  challenge = λ p is. absurd (no_challenge (enabled_elem v) refl p is);
}

pub enabled_answers : (n : ℕ) (b : Bool) → IsAnswered (enabled_as n b)
enabled_answers n true = named_answers (record { id = hex16_of n; resume = true; max = Some RESUMABLE_SECONDS }) (subst (IsTextWithin most_id) (sym (resumable_id (hex16_of n) RESUMABLE_SECONDS)) (hex_within n))
enabled_answers n false = named_answers (record { id = []; resume = false; max = None }) (record { characters = printable_characters [] refl; short = omega arith })

pub enable_acts : (k : ℕ) (resume : Bool) (t : SessionInfo) → ActsAnswer (at_enable itself k resume t)
enable_acts k resume t = either_acts t.counted _ _ (refusing_answers k UnexpectedRequest) (tt, (enabled_answers t.number resume, tt))
