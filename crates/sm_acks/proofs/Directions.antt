-- What the moves of a direction keep.
use Rattle.std.proofs.Common.{◌≡◌, ℕ, ◌≤◌, true, false, cond, List, [], ◌∷◌, ◌++◌, length, take, drop, refl, sym, ap, ◌∙◌, subst, arith, append_assoc, take-append-drop, inl, inr}
use Rattle.std.proofs.lemmas.Bool.{cases_Bool}
use Rattle.std.proofs.lemmas.List.{append-nil, drop_at, length_push}
use Rattle.std.proofs.lemmas.List.Elements.{Contains-push_cases}
use Rattle.std.specs.List.{Contains}
use Rattle.sm_acks.specs.Delivery.{Acknowledge, beginning, Cut, Direction, Handle, IsPrefix, Move, Moves, Put, Reached, Reaches, Resume, State}

-- what was handled, and then what is under way, is a front of what was put, and all of it while the way is open; no
-- more is acknowledged or stated than was handled
pub record Kept {A : Type 0} (d : Direction A) : Type 0 where
  pub front : IsPrefix (d.got ++ d.way) d.put
  pub whole : d.is_open ≡ true → d.put ≡ d.got ++ d.way
  pub acked : d.acked ≤ length d.got
  pub stated : (n : ℕ) → Contains d.stated n → n ≤ length d.got

none_stated : (n : ℕ) → Contains [] n → n ≤ 0
none_stated n among = absurd (omega (arith, among.1))

pub kept_beginning : {A : Type 0} → Kept {A = A} beginning
kept_beginning = record { front = ([], refl); whole = λ _. refl; acked = omega arith; stated = none_stated }

kept_put : {A : Type 0} (d : Direction A) (a : A) → Kept d → Kept (record d { put = d.put ++ a ∷ []; way = cond d.is_open (d.way ++ a ∷ []) d.way })
kept_put d a kept =
    elim (cases_Bool d.is_open) [
      | inl opened ↦
          let all : d.put ++ a ∷ [] ≡ d.got ++ (d.way ++ a ∷ []) = ap (λ l. l ++ a ∷ []) (kept.whole opened) ∙ append_assoc d.got d.way (a ∷ []) in
          rw opened (record {
            front = ([], all ∙ sym (append-nil (d.got ++ (d.way ++ a ∷ []))));
            whole = λ _. all;
            acked = kept.acked;
            stated = kept.stated;
          })
      | inr closed ↦
          rw closed (record {
            front = (kept.front.0 ++ a ∷ [], ap (λ l. l ++ a ∷ []) kept.front.1 ∙ append_assoc (d.got ++ d.way) kept.front.0 (a ∷ []));
            whole = λ (e : false ≡ true). absurd (let no_way : ⊥ = cc in no_way);
            acked = kept.acked;
            stated = kept.stated;
          })
    ]

kept_handle : {A : Type 0} (d : Direction A) (a : A) (rest : List A) → d.way ≡ a ∷ rest → Kept d → Kept (record d { way = rest; got = d.got ++ a ∷ [] })
kept_handle d a rest split kept =
    let same : d.got ++ d.way ≡ (d.got ++ a ∷ []) ++ rest = ap (λ l. d.got ++ l) split ∙ sym (append_assoc d.got (a ∷ []) rest) in
    let one = length_push d.got a in
    record {
      front = (kept.front.0, kept.front.1 ∙ ap (λ l. l ++ kept.front.0) same);
      whole = λ opened. kept.whole opened ∙ same;
      acked = let low = kept.acked in omega arith;
      stated = λ n among. let low = kept.stated n among in omega arith;
    }

kept_state : {A : Type 0} (d : Direction A) → Kept d → Kept (record d { stated = d.stated ++ length d.got ∷ [] })
kept_state d kept =
    record {
      front = kept.front;
      whole = kept.whole;
      acked = kept.acked;
      stated = λ n among. elim (Contains-push_cases d.stated (length d.got) n among) [ inl before ↦ kept.stated n before | inr now ↦ omega (arith, now) ];
    }

kept_cut : {A : Type 0} (d : Direction A) (n : ℕ) → Kept d → Kept (record d { way = take n d.way; is_open = false })
kept_cut d n kept =
    let split : d.got ++ d.way ≡ (d.got ++ take n d.way) ++ drop n d.way =
    ap (λ l. d.got ++ l) (sym (take-append-drop n d.way)) ∙ sym (append_assoc d.got (take n d.way) (drop n d.way)) in
    record {
      front = (
        drop n d.way ++ kept.front.0,
        kept.front.1 ∙ ap (λ l. l ++ kept.front.0) split ∙ append_assoc (d.got ++ take n d.way) (drop n d.way) kept.front.0,
      );
      whole = λ (e : false ≡ true). absurd (let no_way : ⊥ = cc in no_way);
      acked = kept.acked;
      stated = kept.stated;
    }

-- what was handled, and then what was not, is what was put
got_and_rest : {A : Type 0} (d : Direction A) → Kept d → d.put ≡ d.got ++ drop (length d.got) d.put
got_and_rest d kept =
    let split : d.put ≡ d.got ++ (d.way ++ kept.front.0) = kept.front.1 ∙ append_assoc d.got d.way kept.front.0 in
    let rest : drop (length d.got) d.put ≡ d.way ++ kept.front.0 =
    ap (drop (length d.got)) split ∙ drop_at d.got (d.way ++ kept.front.0) (length d.got) refl in
    split ∙ ap (λ l. d.got ++ l) (sym rest)

kept_resume : {A : Type 0} (d : Direction A) → Kept d → Kept (record d { acked = length d.got; way = drop (length d.got) d.put; is_open = true })
kept_resume d kept =
    let all = got_and_rest d kept in
    record {
      front = ([], all ∙ sym (append-nil (d.got ++ drop (length d.got) d.put)));
      whole = λ _. all;
      acked = omega arith;
      stated = kept.stated;
    }

pub kept_move : {A : Type 0} (move : Move A) (d next : Direction A) → Moves move d next → Kept d → Kept next
kept_move (Put a) d next is kept = subst Kept (sym is) (kept_put d a kept)
kept_move Handle d next is kept = subst Kept (sym is.3) (kept_handle d is.0 is.1 is.2 kept)
kept_move State d next is kept = subst Kept (sym is) (kept_state d kept)
kept_move (Acknowledge n) d next is kept =
    subst Kept (sym is.2) (record { front = kept.front; whole = kept.whole; acked = kept.stated n is.0; stated = kept.stated })
kept_move (Cut n) d next is kept = subst Kept (sym is) (kept_cut d n kept)
kept_move Resume d next is kept = subst Kept (sym is) (kept_resume d kept)

kept_along : {A : Type 0} (moves : List (Move A)) (d last : Direction A) → Reaches moves d last → Kept d → Kept last
kept_along [] d last is kept = subst Kept (sym is) kept
kept_along (move ∷ moves) d last reaches kept = kept_along moves reaches.0 last reaches.2 (kept_move move d reaches.0 reaches.1 kept)

pub kept_always : {A : Type 0} (moves : List (Move A)) (d : Direction A) → Reaches moves beginning d → Kept d
kept_always moves d reaches = kept_along moves beginning d reaches kept_beginning

pub kept_reached : {A : Type 0} (d : Direction A) → Reached d → Kept d
kept_reached d reached = kept_always reached.moves d reached.reaches

-- what was handled is a front of what was put
pub got_prefix : {A : Type 0} (d : Direction A) → Kept d → IsPrefix d.got d.put
got_prefix d kept = (d.way ++ kept.front.0, kept.front.1 ∙ append_assoc d.got d.way kept.front.0)
