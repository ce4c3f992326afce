-- The definitions, evaluated at values that were worked out beforehand.
use Rattle.std.proofs.Common.{◌≡◌, ℕ, [], ◌∷◌, List, true, false, refl, arith}
use Rattle.sm_acks.specs.Counters.{ahead}
use Rattle.sm_acks.specs.Delivery.{Acknowledge, Cut, Direction, Handle, Move, Put, queue_of, Reached, Resume, State}

two_over_the_wrap : ahead 1 4294967295 ≡ 2
two_over_the_wrap = refl

three_over_the_wrap : ahead 2 4294967295 ≡ 3
three_over_the_wrap = refl

not_ahead : ahead 7 7 ≡ 0
not_ahead = refl

one_after : ahead 6 7 ≡ 4294967295
one_after = refl

-- stanzas 10, 11 and 12 are put, two are handled and one of them is stated and acknowledged; the connection is lost
-- with the third under way, a fourth is put, and the session is resumed
abbrev moves : List (Move ℕ)
moves =
    Put 10 ∷ Put 11 ∷ Put 12 ∷ Handle ∷ State ∷ Handle ∷ Acknowledge 1 ∷ Cut 0 ∷ Put 13 ∷ Resume ∷ []

abbrev before_resumption : Direction ℕ
before_resumption =
    record { put = 10 ∷ 11 ∷ 12 ∷ 13 ∷ []; acked = 1; got = 10 ∷ 11 ∷ []; way = []; is_open = false; stated = 1 ∷ [] }

abbrev resumed : Direction ℕ
resumed = record before_resumption { acked = 2; way = 12 ∷ 13 ∷ []; is_open = true }

still_queued : queue_of before_resumption ≡ 11 ∷ 12 ∷ 13 ∷ []
still_queued = refl

sent_again : queue_of resumed ≡ 12 ∷ 13 ∷ []
sent_again = refl

reached : Reached resumed
reached =
    record {
      moves = moves;
      reaches = (
        _,
        refl,
        (
          _,
          refl,
          (
            _,
            refl,
            (
              _,
              (10, _, refl, refl),
              (
                _,
                refl,
                (
                  _,
                  (11, _, refl, refl),
                  (_, ((0, omega arith, refl), omega arith, refl), (_, refl, (_, refl, (_, refl, refl)))),
                ),
              ),
            ),
          ),
        ),
      );
    }
