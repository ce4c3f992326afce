-- A login goes through, whatever bytes were drawn for its ends.
use Rattle.std.proofs.Common.{◌≡◌, ℕ, zero, suc, ◌≤◌, ◌<◌, true, List, [], ◌∷◌, ◌++◌, length, take, refl, ap, arith}
use Rattle.std.proofs.lemmas.Bool.{and_parts, ltb-true}
use Rattle.std.specs.Int.{to_be_bytes, w64}
use Rattle.std.specs.List.{list_all}
use Rattle.std.specs.Prelude.{nat_lt}
use Rattle.base64.specs.GeneralPurpose.{IsBytes}
use Rattle.sha2.specs.Sha256.{sha256}
use Rattle.auth_primitives.proofs.ByteSteps.{IsBytes-append, IsBytes-cons, IsBytes-nil}
use Rattle.sim_3_images.proofs.DrawnBytes.{first_bytes}
use Rattle.sim_3_images.proofs.Exchanges.{goes_in_bytes}
use Rattle.sim_3_images.specs.Logins.{HasLogin, IsDrawn}
use Rattle.sim_3_items.specs.Identities.{Identity, bare_of}
use Rattle.auth_scram.proofs.DrawnNonces.{drawn_is_nonce}
use Rattle.auth_scram.specs.Agreement.{Given, IsAllowed}
use Rattle.auth_scram.specs.Exchange.{added_nonce, base64_of, is_plain, salt_of}
use Rattle.auth_scram.specs.Grammar.{is_nonce}
use Rattle.law_limits.proofs.StartKept.{hash_bytes, high_first}
use Rattle.cmd_world.specs.Worlds.{client_entropy, fifteen_zeros, server_entropy}

-- ---- nonces

take_all : (n : ℕ) (xs : List ℕ) → n ≤ length xs → length (take n xs) ≡ n
take_all zero xs long = refl
take_all (suc n) [] long = absurd (omega (arith, long))
take_all (suc n) (x ∷ xs) long = ap suc (take_all n xs (omega (arith, long)))

nonce_drawn : (drawn : List ℕ) → IsDrawn drawn → is_nonce (added_nonce drawn) ≡ true
unfolding base64_of
nonce_drawn drawn is = drawn_is_nonce (take 18 drawn) (first_bytes 18 drawn is.bytes) (take_all 18 drawn is.enough)

-- ---- what both ends are given

abbrev given : Identity → List ℕ → List ℕ → Given
given who mine yours = record {
  name = who.name;
  password = who.password;
  salt = salt_of (bare_of who);
  iterations = 4096;
  nonce = added_nonce mine;
  tail = added_nonce yours;
}

allowed : (who : Identity) (mine yours : List ℕ) → is_plain who.name ≡ true → is_plain who.password ≡ true → IsDrawn mine → IsDrawn yours → IsAllowed (given who mine yours)
allowed who mine yours name password m y = record {
  name = name;
  password = password;
  salt = first_bytes 16 (sha256 (bare_of who)) (hash_bytes (bare_of who));
  least = omega arith;
  most = omega arith;
  nonce = nonce_drawn mine m;
  tail = nonce_drawn yours y;
}

pub has_login : (who : Identity) (mine yours : List ℕ) → is_plain who.name ≡ true → is_plain who.password ≡ true → IsDrawn mine → IsDrawn yours → HasLogin who mine yours
has_login who mine yours name password m y =
    let goes = goes_in_bytes (given who mine yours) (allowed who mine yours name password m y) (omega arith) in
    let through = goes.through in
    record {
      login = record { mine = mine; yours = yours; client = through.client; first = through.first; reply = through.reply };
      is = record {
        begins = through.begins;
        is_read = through.is_read;
        name = through.name;
        replies = through.replies;
        accepts = through.accepts;
        checks = through.checks;
        auth = goes.auth;
        challenge = goes.challenge;
        response = goes.response;
        success = goes.success;
      };
      at_client = refl;
      at_server = refl;
    }

-- ---- what is drawn in a world

small_bytes : (t : List ℕ) → list_all (λ b. nat_lt b 256) t ≡ true → IsBytes t
small_bytes [] h = IsBytes-nil
small_bytes (b ∷ t) h = let parts = and_parts (nat_lt b 256) (list_all (λ x. nat_lt x 256) t) h in IsBytes-cons b t (ltb-true b 256 parts.0) (small_bytes t parts.1)

front_bytes : (b : ℕ) → b < 256 → IsBytes (b ∷ fifteen_zeros)
front_bytes b low = IsBytes-cons b fifteen_zeros low (small_bytes fifteen_zeros refl)

drawn : (b n : ℕ) → b < 256 → IsDrawn (b ∷ fifteen_zeros ++ to_be_bytes w64 n)
drawn b n low = record {
  bytes = IsBytes-append (b ∷ fifteen_zeros) (to_be_bytes w64 n) (front_bytes b low) (high_first 8 n);
  enough = omega arith;
}

pub client_drawn : (n : ℕ) → IsDrawn (client_entropy n)
client_drawn n = drawn 1 n (omega arith)

pub server_drawn : (n : ℕ) → IsDrawn (server_entropy n)
server_drawn n = drawn 0 n (omega arith)
