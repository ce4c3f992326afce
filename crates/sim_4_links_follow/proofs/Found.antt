-- Sessions that live, of which one is changed and stays on its connection.
use Rattle.std.proofs.Common.{◌≡◌, ℕ, ◌==◌, List, Some, length, ◌≤◌, refl, sym, ap, ◌∙◌}
use Rattle.std.proofs.lemmas.Bool.{eq-eqb}
use Rattle.std.specs.Option.{option_map}
use Rattle.sm_acks.specs.declared.end.TheConstants.{MOST_UNACKNOWLEDGED}
use Rattle.sim_3_images.proofs.RuleKept as rule
use Rattle.sim_3_images.proofs.RuleKept.{changes_one, either, found_mapped, numbered_here, seat_of, was_found}
use Rattle.sm_live.specs.Rule.{IsRule}
use Rattle.sm_live.specs.Sessions.{Session, is_at, is_named, is_numbered, session_at, session_named, session_of, with_session}
use Rattle.sm_resumption.specs.Rows.{is_some_number}

module _ {A : Type 0} where
  -- what such a change leaves
  pub record Keeps (g : Session A → Session A) : Type 0 where
    pub number : (s : Session A) → (g s).shown.number ≡ s.shown.number
    pub account : (s : Session A) → (g s).shown.account ≡ s.shown.account
    pub resource : (s : Session A) → (g s).shown.resource ≡ s.shown.resource
    pub conn : (s : Session A) → (g s).shown.conn ≡ s.shown.conn

  any : (f : Session A → Session A) → Keeps f → rule.Keeps f
  any f kept = record { number = kept.number; account = kept.account; resource = kept.resource }

  pub keeps_one : (n : ℕ) (f : Session A → Session A) → Keeps f → Keeps (changes_one n f)
  keeps_one n f kept =
      let all = rule.keeps_one n f (any f kept) in
      record {
        number = all.number;
        account = all.account;
        resource = all.resource;
        conn = λ s. either (λ (t : Session A). t.shown.conn ≡ s.shown.conn) (s.shown.number == n) (f s) s (kept.conn s) refl;
      }

  pub of_changed : (m n : ℕ) (f : Session A → Session A) (ss : List (Session A)) → Keeps f → session_of m (with_session n f ss) ≡ option_map (changes_one n f) (session_of m ss)
  of_changed m n f ss kept = found_mapped (is_numbered m) (changes_one n f) ss (λ s. ap (λ k. k == m) ((keeps_one n f kept).number s))

  pub named_one : (account : ℕ) (resource : List ℕ) (n : ℕ) (f : Session A → Session A) (s : Session A) → Keeps f → is_named account resource (changes_one n f s) ≡ is_named account resource s
  named_one account resource n f s kept = rule.named_one account resource n f s (any f kept)

  pub named_stays : (account : ℕ) (resource : List ℕ) (n : ℕ) (f : Session A → Session A) (ss : List (Session A)) → Keeps f
      → ((s : Session A) → session_named account resource ss ≡ Some s → changes_one n f s ≡ s) → session_named account resource (with_session n f ss) ≡ session_named account resource ss
  named_stays account resource n f ss kept = rule.named_stays account resource n f ss (any f kept)

  pub named_changed : (account : ℕ) (resource : List ℕ) (n : ℕ) (f : Session A → Session A) (ss : List (Session A)) → Keeps f
      → session_named account resource (with_session n f ss) ≡ option_map (changes_one n f) (session_named account resource ss)
  named_changed account resource n f ss kept = rule.named_changed account resource n f ss (any f kept)

  pub change_here : (n : ℕ) (f : Session A → Session A) (s : Session A) → s.shown.number ≡ n → changes_one n f s ≡ f s
  change_here n f s same = let e = eq-eqb s.shown.number n same in rw e refl

  pub of_was : (m n : ℕ) (f : Session A → Session A) (ss : List (Session A)) (s : Session A) → Keeps f → session_of m (with_session n f ss) ≡ Some s → (t : Session A) × (session_of m ss ≡ Some t) × (changes_one n f t ≡ s)
  of_was m n f ss s kept is = rule.of_was m n f ss s (any f kept) is

  pub at_was : (k n : ℕ) (f : Session A → Session A) (ss : List (Session A)) (s : Session A) → Keeps f → session_at k (with_session n f ss) ≡ Some s → (t : Session A) × (session_at k ss ≡ Some t) × (changes_one n f t ≡ s)
  at_was k n f ss s kept is = was_found (changes_one n f) (session_at k ss) s (sym (found_mapped (is_at k) (changes_one n f) ss (λ t. ap (is_some_number k) ((keeps_one n f kept).conn t))) ∙ is)

  pub rule_changed : (next n : ℕ) (f : Session A → Session A) (ss : List (Session A)) → Keeps f → ((s : Session A) → session_of n ss ≡ Some s → length (f s).waiting ≤ MOST_UNACKNOWLEDGED)
      → IsRule ss next → IsRule (with_session n f ss) next
  rule_changed next n f ss kept few is = rule.rule_changed next n (λ j. ⊥) f ss is (any f kept) (rule.stays ss f (λ s j on. sym (kept.conn s) ∙ on)) few

  -- a session on a connection is the one that is found there
  pub found_on : (next k account : ℕ) (resource : List ℕ) (ss : List (Session A)) (s : Session A) → IsRule ss next → session_named account resource ss ≡ Some s → s.shown.conn ≡ Some k → session_at k ss ≡ Some s
  found_on next k account resource ss s is named on = seat_of next k ss s is (numbered_here (is_named account resource) next 1 ss s is.ascending named) on
