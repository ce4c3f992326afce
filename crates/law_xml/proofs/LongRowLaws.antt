-- What is too long on bytes is what the state tells as too long.
use Rattle.std.proofs.Common.{◌≡◌, ◌≢◌, ℕ, ◌<◌, ◌≤◌, ◌^◌, ◌⊎◌, inl, inr, ⊎_elim, Bool, true, false, not, ◌&&◌, ◌||◌, ◌==◌, if◌then◌else◌, List, [], ◌∷◌, ◌++◌, Option, Some, None, codes, length, length-append, refl, sym, ap, subst, ◌∙◌, arith, append_assoc, append-nil}
use Rattle.std.proofs.lemmas.Bool.{and_from, and_parts, cases_Bool, eqb-true, false≢true, ltb-true, not-true, or_from, or_parts, true≢false, lt-ltb, le-leb, eqb-false, ne_eqb}
use Rattle.std.proofs.lemmas.Bool.Decides.{nat_tests}
use Rattle.std.proofs.lemmas.List.Folds.{list_all-append}
use Rattle.std.specs.List.{list_all}
use Rattle.std.specs.Option.{is_some}
use Rattle.std.specs.Prelude.{nat_le}
use Rattle.xml_names.specs.Scopes.{Scope}
use Rattle.xml_tokens.specs.Characters.{is_name_start}
use Rattle.xml_tokens.specs.Tags.{is_empty, is_end}
use Rattle.xml_framer.proofs.Pieces.{run_append}
use Rattle.xml_trees.specs.Trees.{Nodes}
use Rattle.xml_framer.specs.Machine.{is_too_long, part_of, run, shows_unlimited}
use Rattle.xml_framer.specs.Readings.{fault_of, framed}
use Rattle.xml_framer.specs.States.{OpenElement, State, Turn, admits_declaration, from_start, is_opening, is_text, may_declare, turn}
use Rattle.xml_framer.specs.TagSteps.{scope_in}
use Rattle.xml_framer.specs.declared.fault.Fault.{Fault}
use Rattle.xml_framer.specs.declared.fault.Why.TheVariants as why
use Rattle.xml_framer.specs.declared.items.Item.{Item}
use Rattle.xml_framer.specs.declared.limits.Limits.{Limits}
use Rattle.xml_framer.specs.declared.states.Mode.{Mode}
use Rattle.xml_framer.specs.declared.states.Mode.TheVariants as mode
use Rattle.xml_framer.specs.declared.states.Phase.{Phase}
use Rattle.xml_framer.specs.declared.states.Phase.TheVariants as phase
use Rattle.law_xml.proofs.ContextStays.{at, held_at, open_front}
use Rattle.law_xml.proofs.ContextsTold.{context_of}
use Rattle.law_xml.proofs.HandsTold.{none_told, run_told, token_told}
use Rattle.law_xml.proofs.OpenLevels.{AreCovered, IsContent, IsContentBefore, Level}
use Rattle.law_xml.proofs.OpenRowLaws.{markup_context, read_at, text_context, limits_are}
use Rattle.law_xml.proofs.PrefixRuns.{long_told, prefix_known}
use Rattle.law_xml.proofs.ReadSoFar.{Around, Hand, TokenIn, in_force}
use Rattle.law_xml.proofs.RowsTold.{one_some}
use Rattle.law_xml.proofs.StreamRuns.{stream_read}
use Rattle.law_xml.proofs.TagByteRows.{from_outside}
use Rattle.law_xml.proofs.TagEnds.{BeginsStart, start_begins, start_no_exclamation, start_no_slash}
use Rattle.law_xml.proofs.UsedBound.{run_used}
use Rattle.law_xml.specs.ByteRows.{EndInMarkup}
use Rattle.law_xml.specs.Contexts.{AreOpen, HasContext}
use Rattle.law_xml.specs.Hands.{AreKept, IsTokenHeld}
use Rattle.law_xml.specs.LongRows.{HasLimit, IsLong}
use Rattle.law_xml.specs.Offsets.{IsOpen, IsRun, first_of, is_no_markup, leads_tag, open_declaration, open_tag, opening_declaration, opening_section}
use Rattle.law_xml.specs.OpenRows.{EndInText}
use Rattle.law_xml.specs.Prefixes.{IsPrefix}
use Rattle.law_xml.specs.StreamLimits.{IsStreamWithin}
use Rattle.law_xml.specs.Streams.{InForce, StreamTo, position_of}
use Rattle.law_xml.proofs.OffsetMarks.{some_none, tails}
use Rattle.law_xml.proofs.OneOffset.{heads}
use Rattle.xml_framer.proofs.PlainTags.{never as none_shown}

same_offset : (m n : ℕ) → ◌≡◌ {A = Option Fault} (Some (record { at = m; why = why.TooLong })) (Some (record { at = n; why = why.TooLong })) → m ≡ n
same_offset m n e = ap (λ (f : Fault). f.at) (one_some _ _ e)

-- ---- two fronts of one list

record IsLonger (a b c d : List ℕ) : Type 0 where
  more : List ℕ
  front_is : c ≡ a ++ more
  rest_is : b ≡ more ++ d

longer : (a b c d : List ℕ) → a ++ b ≡ c ++ d → length a ≤ length c → IsLonger a b c d
longer [] b c d e le = record { more = c; front_is = refl; rest_is = e }
longer (x ∷ xs) b [] d e le = absurd (omega (arith, le))
longer (x ∷ xs) b (y ∷ ys) d e le =
    let r = longer xs b ys d (tails x y (xs ++ b) (ys ++ d) e) (omega (arith, le)) in
    let same = heads x y (xs ++ b) (ys ++ d) e in record { more = r.more; front_is = λ i. sym same i ∷ r.front_is i; rest_is = r.rest_is }

pub same_front : (a b c d : List ℕ) → a ++ b ≡ c ++ d → length a ≡ length c → (a ≡ c) × (b ≡ d)
same_front [] b [] d e n = (refl, e)
same_front [] b (y ∷ ys) d e n = absurd (omega (arith, n))
same_front (x ∷ xs) b [] d e n = absurd (omega (arith, n))
same_front (x ∷ xs) b (y ∷ ys) d e n =
    let r = same_front xs b ys d (tails x y (xs ++ b) (ys ++ d) e) (omega (arith, n)) in
    let same = heads x y (xs ++ b) (ys ++ d) e in ((λ i. same i ∷ r.0 i), r.1)

-- ---- an open element begins with a start tag

begins_more : (a b : List ℕ) → BeginsStart a → BeginsStart (a ++ b)
begins_more a b h = record { second = h.second; rest = h.rest ++ b; bytes_are = ap (λ l. l ++ b) h.bytes_are; starts = h.starts }

level_begins : (limits : Limits) (IsInside : Scope → List ℕ → Nodes → Type 0) (outer own : Scope) (o : OpenElement) (bytes : List ℕ) → Level limits IsInside outer own o bytes → BeginsStart bytes
level_begins limits IsInside outer own o bytes h =
    subst BeginsStart (sym h.bytes_are) (begins_more h.start h.inside (start_begins h.start h.tag.spelled h.raw h.tag.empty h.is_start.spelled))

levels_begin : (limits : Limits) (base scopes : List Scope) (os : List OpenElement) (outer rest : List ℕ) → AreCovered limits base scopes os outer → BeginsStart rest → BeginsStart (outer ++ rest)
levels_begin limits base scopes [] outer rest h b = subst (λ l. BeginsStart (l ++ rest)) (sym h.1) b
levels_begin limits base [] (o ∷ os) outer rest h b = absurd h
levels_begin limits base (own ∷ scopes) (o ∷ os) outer rest h b =
    let level = level_begins limits (IsContentBefore limits) (scope_in scopes) own o h.1 h.3 in
    let all = levels_begin limits base scopes os h.0 (h.1 ++ rest) h.2 (begins_more h.1 rest level) in
    subst BeginsStart (sym (append_assoc h.0 h.1 rest) ∙ ap (λ l. l ++ rest) (sym h.4)) all

start_no_question : (b : ℕ) → is_name_start b ≡ true → b ≡ 63 → ⊥
start_no_question b e is = false≢true (ap is_name_start (sym is) ∙ e)

start_limited : (p : Phase) (hand : List ℕ) (b : ℕ) → BeginsStart hand → HasLimit p (hand ++ b ∷ [])
start_limited p hand b h = record {
  second = h.second;
  rest = h.rest ++ b ∷ [];
  hand_is = ap (λ l. l ++ b ∷ []) h.bytes_are;
  no_end = start_no_slash h.second h.starts;
  no_exclamation = start_no_exclamation h.second h.starts;
  declares = λ is. absurd (start_no_question h.second h.starts is);
}

-- ---- a state

-- the unfinished bytes are counted
record IsCountedHand (s : State) (b : ℕ) (p : Phase) (hand : List ℕ) : Type 0 where
  used_is : s.positions.used ≡ length hand
  some : 0 < length hand
  shows : shows_unlimited s b ≡ false → HasLimit p (hand ++ b ∷ [])
  limited : HasLimit p (hand ++ b ∷ []) → shows_unlimited s b ≡ false

-- they aren't
record IsFreeHand (s : State) (b : ℕ) (p : Phase) (hand : List ℕ) : Type 0 where
  unused : s.positions.used ≡ 0
  no_limit : HasLimit p (hand ++ b ∷ []) → ⊥

far_parts : (s : State) (b : ℕ) → is_too_long s b ≡ true → (0 < s.positions.used) × (s.limits.bytes ≤ s.positions.used) × (shows_unlimited s b ≡ false)
unfolding is_too_long
far_parts s b e =
    let p = and_parts _ _ e in
    let q = and_parts (nat_le s.limits.bytes s.positions.used) (not (shows_unlimited s b)) p.1 in
    (ltb-true 0 s.positions.used p.0, most s.limits.bytes s.positions.used q.0, not-true (shows_unlimited s b) q.1)
  where
    most : (m n : ℕ) → nat_le m n ≡ true → m ≤ n
    most m n h = grind (arith, nat_tests)

far_from : (s : State) (b : ℕ) → 0 < s.positions.used → s.limits.bytes ≤ s.positions.used → shows_unlimited s b ≡ false → is_too_long s b ≡ true
unfolding is_too_long
far_from s b some most shows = and_from _ _ (lt-ltb 0 s.positions.used some) (and_from _ _ (le-leb s.limits.bytes s.positions.used most) (ap not shows))

run_no_limit : (p : Phase) (hand : List ℕ) (b : ℕ) → IsRun hand → HasLimit p (hand ++ b ∷ []) → ⊥
run_no_limit p [] b plain h = some_none h.second h.rest (sym (tails b 60 [] (h.second ∷ h.rest) h.hand_is))
run_no_limit p (x ∷ xs) b plain h =
    let is = heads x 60 (xs ++ b ∷ []) (h.second ∷ h.rest) h.hand_is in
    let no : is_no_markup 60 ≡ true = subst (λ d. is_no_markup d ≡ true) is (and_parts (is_no_markup x) (list_all is_no_markup xs) plain).0 in absurd (false≢true no)

second_is : (p : Phase) (c : ℕ) (more : List ℕ) (b : ℕ) (h : HasLimit p (60 ∷ (c ∷ more) ++ b ∷ [])) → h.second ≡ c
second_is p c more b h = heads h.second c h.rest (more ++ b ∷ []) (sym (tails 60 60 ((c ∷ more) ++ b ∷ []) (h.second ∷ h.rest) h.hand_is))

-- markup is what is unfinished
record IsUnfinished (done hand : List ℕ) (p there : Phase) (before more : List ℕ) : Type 0 where
  done_is : before ≡ done
  hand_is : 60 ∷ more ≡ hand
  phase_is : there ≡ p

-- where a `<` alone is there, the next byte shows whether what begins has a limit
module _ (s : State) (b : ℕ) (p : Phase) (phase_is : s.lexical.phase ≡ p) (outer : is_some s.here ≡ false) (opening : s.lexical.mode ≡ mode.Opening) where
  abbrev Free : Bool
  Free = b == 47 || (b == 33 || (b == 63 && not (may_declare s)))

  shows_is : shows_unlimited s b ≡ Free
  shows_is = rw (opening, outer) refl

  may_is : may_declare s ≡ admits_declaration p
  may_is = rw (outer, phase_is) refl

  opening_shows : shows_unlimited s b ≡ false → HasLimit p (60 ∷ [] ++ b ∷ [])
  opening_shows e =
      let q = or_parts (b == 47) _ (sym shows_is ∙ e) in
      let r = or_parts (b == 33) _ q.1 in
      record {
        second = b;
        rest = [];
        hand_is = refl;
        no_end = eqb-false b 47 q.0;
        no_exclamation = eqb-false b 33 r.0;
        declares = λ is. sym may_is ∙ asked (may_declare s) (subst (λ d. (d == 63 && not (may_declare s)) ≡ false) is r.1);
      }
    where
      asked : (x : Bool) → (63 == 63 && not x) ≡ false → x ≡ true
      asked true h = refl
      asked false h = absurd (true≢false h)

  opening_limited : HasLimit p (60 ∷ [] ++ b ∷ []) → shows_unlimited s b ≡ false
  opening_limited h =
      let is : h.second ≡ b = heads h.second b h.rest [] (sym (tails 60 60 (b ∷ []) (h.second ∷ h.rest) h.hand_is)) in
      let no_end = ne_eqb b 47 (λ e. h.no_end (is ∙ e)) in
      let no_exclamation = ne_eqb b 33 (λ e. h.no_exclamation (is ∙ e)) in
      shows_is ∙ or_from (b == 47) _ no_end (or_from (b == 33) _ no_exclamation (asked (cases_Bool (b == 63))))
    where
      asked : ((b == 63) ≡ true) ⊎ ((b == 63) ≡ false) → (b == 63 && not (may_declare s)) ≡ false
      asked (inl e) =
          let is : h.second ≡ b = heads h.second b h.rest [] (sym (tails 60 60 (b ∷ []) (h.second ∷ h.rest) h.hand_is)) in
          let may : may_declare s ≡ true = may_is ∙ h.declares (is ∙ eqb-true b 63 e) in rw (e, may) refl
      asked (inr e) = rw e refl

module _ (limits : Limits) (few_bytes : limits.bytes < 2 ^ 64) (few : limits.attributes < 2 ^ 32) (short : limits.namespace_bytes < 2 ^ 32) (bytes : List ℕ) (none : fault_of limits bytes ≡ None) where
  abbrev s : State
  s = (framed limits bytes).state

  abbrev items : List Item
  items = (framed limits bytes).items

  known : IsPrefix limits bytes items (part_of s)
  unfolding framed
  known = prefix_known limits bytes few short none

  one_phase : (now other : InForce) (done : List ℕ) (given said : List Item) (x : StreamTo now done given) (y : StreamTo other done said) → IsStreamWithin limits now done given x → IsStreamWithin limits other done said y → now.phase ≡ other.phase
  one_phase now other done given said x y within also =
      let r = stream_read limits now done given x within in
      let q = stream_read limits other done said y also in
      sym r.stands.phase_is ∙ ap (λ (u : Turn). u.state.lexical.phase) (sym r.run_is ∙ q.run_is) ∙ q.stands.phase_is

  -- after a stream no token is in hand
  text_after : (now : InForce) (done : List ℕ) (given : List Item) (x : StreamTo now done given) → IsStreamWithin limits now done given x → (is_text (at limits done).state.lexical.mode ≡ true) × ((at limits done).state.fault ≡ None)
  text_after now done given x within =
      let r = stream_read limits now done given x within in
      (ap (λ (u : Turn). is_text u.state.lexical.mode) r.run_is ∙ ap is_text r.stands.text, ap (λ (u : Turn). u.state.fault) r.run_is ∙ r.stands.no_fault)

  module _ (p : IsPrefix limits bytes items (part_of s)) where
    within : IsStreamWithin limits p.now p.done items p.stream
    within = p.within few_bytes

    -- what stands before a token outside elements is a stream
    outside_before : (before : List ℕ) (rest : List ℕ) → bytes ≡ before ++ rest → HasContext limits (context_of s) before → is_some s.here ≡ false
        → (length before ≤ length p.done) × ((before ≡ p.done) → s.lexical.phase ≡ p.now.phase)
    outside_before before rest are c outer =
        let open_none = subst (λ l. AreOpen limits c.now.scope l (context_of s).scope c.opened) (from_outside s outer) c.are_open in
        let done_is : before ≡ c.done = c.bytes_are ∙ ap (λ l. c.done ++ l) open_none.1 ∙ append-nil c.done in
        let le = p.longest c.now c.done rest c.items c.stream (are ∙ ap (λ l. l ++ rest) done_is) c.within in (
          omega (arith, le, ap length done_is),
          λ same.
              sym c.phase_is ∙ phase_there c.now c.done c.items c.stream c.within (sym done_is ∙ same),
        )
      where
        phase_there : (now : InForce) (done : List ℕ) (given : List Item) (x : StreamTo now done given) → IsStreamWithin limits now done given x → done ≡ p.done → now.phase ≡ p.now.phase
        phase_there now done given x inner same =
            let moved = subst (λ l. (y : StreamTo now l given) × IsStreamWithin limits now l given y) same (x, inner) in
            one_phase now p.now p.done given items moved.0 p.stream moved.1 within

    abbrev IsToken : List ℕ → List ℕ → Type 0
    IsToken before more = IsUnfinished p.done p.hand p.now.phase s.lexical.phase before more

    -- markup outside elements is what is unfinished
    token_is : (before more : List ℕ) → EndInMarkup bytes before more → IsOpen more → is_some s.here ≡ false → IsToken before more
    token_is before more e opens outer =
        let c = markup_context limits few_bytes few short bytes none before more e opens in
        let out = outside_before before (60 ∷ more) e.bytes_are c outer in
        let r = longer before (60 ∷ more) p.done p.hand (sym e.bytes_are ∙ p.bytes_are) out.0 in
        let empty = no_more r.more r.front_is r.rest_is in
        let same : before ≡ p.done = sym (r.front_is ∙ ap (λ l. before ++ l) empty ∙ append-nil before) in
        record { done_is = same; hand_is = r.rest_is ∙ ap (λ l. l ++ p.hand) empty; phase_is = out.1 same }
      where
        no_more : (l : List ℕ) → p.done ≡ before ++ l → 60 ∷ more ≡ l ++ p.hand → l ≡ []
        no_more [] front rest = refl
        no_more (x ∷ xs) front rest =
            let first = heads 60 x more (xs ++ p.hand) rest in
            let there : p.done ≡ before ++ 60 ∷ xs = front ∙ ap (λ d. before ++ d ∷ xs) (sym first) in
            let t = text_after p.now p.done items p.stream within in
            let part = open_front xs p.hand (subst IsOpen (tails 60 x more (xs ++ p.hand) rest) opens) in
            let held = held_at limits before xs (ap (λ l. (at limits l).state.fault) (sym there) ∙ t.1) e.ahead part in
            absurd (true≢false (sym t.0 ∙ ap (λ l. is_text (at limits l).state.lexical.mode) there ∙ held))

    -- a text outside elements has no limit
    text_free : (b : ℕ) (before text : List ℕ) → EndInText bytes before text → is_some s.here ≡ false → HasLimit p.now.phase (p.hand ++ b ∷ []) → ⊥
    text_free b before text e outer =
        let c = text_context limits few_bytes few short bytes none before text e in
        let out = outside_before before text e.bytes_are c outer in
        let r = longer before text p.done p.hand (sym e.bytes_are ∙ p.bytes_are) out.0 in
        run_no_limit p.now.phase p.hand b (and_parts _ _ (sym (list_all-append is_no_markup r.more p.hand) ∙ ap (list_all is_no_markup) (sym r.rest_is) ∙ e.is_run)).1

    text_case : (b : ℕ) → is_text s.lexical.mode ≡ true → is_some s.here ≡ false → HasLimit p.now.phase (p.hand ++ b ∷ []) → ⊥
    text_case b text_there outer =
        ⊎_elim (λ (on : s.lexical.in_run ≡ true). let k = run_told limits bytes none text_there on in text_free b k.before k.text (record { tokens = k.ahead; is_run = k.is_run; bytes_are = k.bytes_are }) outer)
        (λ (off : s.lexical.in_run ≡ false). let k = none_told limits bytes none text_there off in text_free b bytes [] (record { tokens = k.tokens; is_run = refl; bytes_are = sym (append-nil bytes) }) outer)
        (cases_Bool s.lexical.in_run)

    -- an open element
    module _ (b : ℕ) (o : OpenElement) (hand : List ℕ) (a : Around s.limits s.positions.used s.lexical.phase s.scopes s.name s.below o items bytes hand) (inner : is_some s.here ≡ true) where
      abbrev whole : List ℕ
      whole = a.outer ++ (a.level ++ hand)

      used_most : s.positions.used ≤ length p.hand
      unfolding framed
      used_most =
          let r = stream_read limits p.now p.done items p.stream within in
          let following : run (turn r.following items) p.hand ≡ at limits bytes =
          ap (λ (u : Turn). run u p.hand) (sym r.run_is) ∙ sym (run_append (turn (from_start limits) []) p.done p.hand) ∙ ap (at limits) (sym p.bytes_are) in
          let n = run_used p.hand (turn r.following items) (ap (λ (u : Turn). u.state.fault) following ∙ none) in
          let same = ap (λ (u : Turn). u.state.positions.used) following in
          let zero_used = r.stands.none_used in omega (arith, n, same, zero_used)

      element_hand : IsCountedHand s b p.now.phase p.hand
      element_hand =
          let few_there = subst (λ (l : Limits). l.bytes < 2 ^ 64) (sym (limits_are limits few_bytes few short bytes none)) few_bytes in
          let count = a.count few_there in
          let some = count.0 in
          let sum = count.1 in
          let stream = a.stream in
          let inside = subst (λ l. IsStreamWithin l (in_force phase.Between a.base s.name) a.done items stream.0) (limits_are limits few_bytes few short bytes none) (stream.1 few_there) in
          let le = p.longest (in_force phase.Between a.base s.name) a.done whole items stream.0 a.bytes_are inside in
          let most = used_most in
          let n = ap length p.bytes_are ∙ length-append p.done p.hand in
          let used : s.positions.used ≡ length p.hand = omega (arith, sum, le, most, n) in
          let fronts = same_front a.done whole p.done p.hand (sym a.bytes_are ∙ p.bytes_are) (omega (arith, sum, used, n)) in
          let level = begins_more a.level hand (level_begins s.limits (IsContent s.limits) (scope_in a.rest) a.own o a.level a.open_level) in
          let begins = subst BeginsStart fronts.1 (levels_begin s.limits a.base a.rest s.below a.outer (a.level ++ hand) a.covered level) in
          record { used_is = used; some = omega (arith, some, used); shows = λ e. start_limited p.now.phase p.hand b begins; limited = λ e. rw inner (none_shown (is_opening s.lexical.mode)) }

    -- ---- a token outside elements

    module _ (b : ℕ) (outer : is_some s.here ≡ false) where
      abbrev Kind : Type 0
      Kind = IsCountedHand s b p.now.phase p.hand ⊎ IsFreeHand s b p.now.phase p.hand

      token_used : (now : InForce) (position : ℕ) (more : List ℕ) → TokenIn s.limits s.positions.used now items bytes s.token position → s.token ≡ 60 ∷ more → 60 ∷ more ≡ p.hand → (s.positions.used ≡ length p.hand) × (0 < length p.hand)
      token_used now position more h token hand =
          let few_there = subst (λ (l : Limits). l.bytes < 2 ^ 64) (sym (limits_are limits few_bytes few short bytes none)) few_bytes in
          let count = h.count few_there in
          let some = count.0 in
          let sum = count.1 in
          let n = ap length h.bytes_are ∙ length-append h.done s.token in
          let m = ap length (token ∙ hand) in (omega (arith, sum, n, m), omega (arith, some, sum, n, m))

      free : (c : ℕ) (more : List ℕ) → s.positions.used ≡ 0 → 60 ∷ c ∷ more ≡ p.hand → (c ≡ 33) ⊎ (c ≡ 47) → IsFreeHand s b p.now.phase p.hand
      free c more unused hand is = record { unused = unused; no_limit = λ h. refuse is (subst (λ l. HasLimit p.now.phase (l ++ b ∷ [])) (sym hand) h) }
        where
          refuse : (c ≡ 33) ⊎ (c ≡ 47) → HasLimit p.now.phase (60 ∷ (c ∷ more) ++ b ∷ []) → ⊥
          refuse (inl e) h = h.no_exclamation (second_is p.now.phase c more b h ∙ e)
          refuse (inr e) h = h.no_end (second_is p.now.phase c more b h ∙ e)

      limited_hand : (c : ℕ) (more : List ℕ) → 60 ∷ c ∷ more ≡ p.hand → (s.positions.used ≡ length p.hand) × (0 < length p.hand) → is_opening s.lexical.mode ≡ false → c ≢ 47 → c ≢ 33 → (c ≡ 63 → admits_declaration p.now.phase ≡ true)
          → IsCountedHand s b p.now.phase p.hand
      limited_hand c more hand used later no_end no_exclamation declares = record {
        used_is = used.0;
        some = used.1;
        shows = λ e. record { second = c; rest = more ++ b ∷ []; hand_is = ap (λ l. l ++ b ∷ []) (sym hand); no_end = no_end; no_exclamation = no_exclamation; declares = declares };
        limited = λ h. rw later refl;
      }

      -- the token in hand
      markup_of : (k : IsTokenHeld s bytes) → first_of s.lexical.mode ≡ 60 → EndInMarkup bytes k.before k.more
      markup_of k first = record { ahead = k.ahead; bytes_are = k.bytes_are ∙ ap (λ d. k.before ++ d ∷ k.more) first }

      none_kind : (m : Mode) → s.lexical.mode ≡ m → Hand None m s s.positions.used items bytes → Kind
      none_kind mode.Text is h = inr (record { unused = h.1.1; no_limit = text_case b (ap is_text is) outer })
      none_kind mode.Reference is h = absurd h.1
      none_kind mode.Section is h = absurd h.1
      none_kind mode.Opening is h =
          let k = token_told limits bytes none (ap is_text is) in
          let kept = subst (λ n. AreKept n s k.more) is k.kept in
          let t = token_is k.before k.more (markup_of k (ap first_of is)) (subst IsOpen (sym kept.1) (open_tag [] refl refl)) outer in
          let hand : 60 ∷ [] ≡ p.hand = ap (λ l. 60 ∷ l) (sym kept.1) ∙ t.hand_is in
          let used = token_used (in_force s.lexical.phase s.scopes s.name) s.positions.token_at [] h.1.1 h.1.0 hand in
          inl
          (record {
            used_is = used.0;
            some = used.1;
            shows = λ e. subst (λ l. HasLimit p.now.phase (l ++ b ∷ [])) hand (opening_shows s b p.now.phase t.phase_is outer is e);
            limited = λ g. opening_limited s b p.now.phase t.phase_is outer is (subst (λ l. HasLimit p.now.phase (l ++ b ∷ [])) (sym hand) g);
          })
      none_kind mode.Bang is h =
          let k = token_told limits bytes none (ap is_text is) in
          let kept = subst (λ n. AreKept n s k.more) is k.kept in
          let t = token_is k.before k.more (markup_of k (ap first_of is)) (opening_section k.more kept.1 kept.2) outer in
          inr (bang k.more kept.1 kept.2 kept.3 h.1 t.hand_is)
        where
          bang : (more rest : List ℕ) → codes "![CDATA[" ≡ more ++ rest → leads_tag more ≡ false → s.positions.used ≡ 0 → 60 ∷ more ≡ p.hand → IsFreeHand s b p.now.phase p.hand
          bang [] rest due lead unused hand = absurd (true≢false lead)
          bang (x ∷ xs) rest due lead unused hand = free x xs unused hand (inl (sym (heads 33 x (codes "[CDATA[") (xs ++ rest) due)))
      none_kind mode.Footer is h =
          let k = token_told limits bytes none (ap is_text is) in
          let kept = subst (λ n. AreKept n s k.more) is k.kept in
          let t = token_is k.before k.more (markup_of k (ap first_of is)) (open_tag k.more kept.0 kept.1) outer in
          inr (end k.more kept.3 h.1.0 t.hand_is)
        where
          end : (more : List ℕ) → is_end (60 ∷ more) ≡ true → s.positions.used ≡ 0 → 60 ∷ more ≡ p.hand → IsFreeHand s b p.now.phase p.hand
          end [] e unused hand = absurd (false≢true e)
          end (x ∷ xs) e unused hand = free x xs unused hand (inr (eqb-true x 47 (and_parts (60 == 60) (x == 47) e).1))
      none_kind mode.Question is h =
          let k = token_told limits bytes none (ap is_text is) in
          let kept = subst (λ n. AreKept n s k.more) is k.kept in
          let t = token_is k.before k.more (markup_of k (ap first_of is)) (opening_declaration k.more kept.1 kept.2) outer in
          inl (question k.more kept.1 kept.2 kept.3 t.hand_is (token_used (in_force s.lexical.phase s.scopes s.name) s.positions.token_at k.more h.1.1 kept.0 t.hand_is) (ap admits_declaration (sym t.phase_is) ∙ h.1.0))
        where
          question : (more rest : List ℕ) → codes "?xml" ≡ more ++ rest → leads_tag more ≡ false → 60 ∷ more ≡ p.hand → (s.positions.used ≡ length p.hand) × (0 < length p.hand) → admits_declaration p.now.phase ≡ true
              → IsCountedHand s b p.now.phase p.hand
          question [] rest due lead hand used may = absurd (true≢false lead)
          question (x ∷ xs) rest due lead hand used may =
              let first = heads 63 x (codes "xml") (xs ++ rest) due in
              limited_hand x xs hand used (ap is_opening is) (λ e. let f = first in omega (arith, e, f)) (λ e. let f = first in omega (arith, e, f)) (λ e. may)
      none_kind mode.Declaration is h =
          let k = token_told limits bytes none (ap is_text is) in
          let kept = subst (λ n. AreKept n s k.more) is k.kept in
          let t = token_is k.before k.more (markup_of k (ap first_of is)) (open_declaration k.more kept.2 kept.1 kept.3 kept.4 kept.5) outer in
          let hand : 60 ∷ 63 ∷ (codes "xml" ++ kept.1 ∷ kept.2) ≡ p.hand = ap (λ l. 60 ∷ l) (sym kept.3) ∙ t.hand_is in
          inl
          (limited_hand 63 (codes "xml" ++ kept.1 ∷ kept.2) hand (token_used (in_force s.lexical.phase s.scopes s.name) s.positions.token_at k.more h.1.1 kept.0 t.hand_is) (ap is_opening is) (λ e. omega (arith, e)) (λ e. omega (arith, e))
          (λ e. ap admits_declaration (sym t.phase_is) ∙ h.1.0))
      none_kind mode.Tag is h =
          let k = token_told limits bytes none (ap is_text is) in
          let kept = subst (λ n. AreKept n s k.more) is k.kept in
          let t = token_is k.before k.more (markup_of k (ap first_of is)) (open_tag k.more kept.1 kept.2) outer in
          inl (tag k.more kept.0 kept.1 kept.4 h.1.0.1 t.hand_is (token_used (in_force s.lexical.phase s.scopes s.name) s.positions.token_at k.more h.1.1 kept.0 t.hand_is))
        where
          slash : (y : Bool) → (60 == 60 && y) ≡ false → y ≡ false
          slash true h = absurd (true≢false h)
          slash false h = refl

          tag : (more : List ℕ) → s.token ≡ 60 ∷ more → leads_tag more ≡ true → is_empty more ≡ false → is_end s.token ≡ false → 60 ∷ more ≡ p.hand → (s.positions.used ≡ length p.hand) × (0 < length p.hand)
              → IsCountedHand s b p.now.phase p.hand
          tag [] token leads some no_end hand used = absurd (true≢false some)
          tag (x ∷ xs) token leads some no_end hand used =
              let q = or_parts (x == 33) (x == 63) (not-true (x == 33 || x == 63) leads) in
              let other : (60 == 60 && x == 47) ≡ false = ap is_end (sym token) ∙ no_end in
              limited_hand x xs hand used (ap is_opening is) (eqb-false x 47 (slash (x == 47) other)) (eqb-false x 33 q.0) (λ e. absurd (eqb-false x 63 q.1 e))

    kind : (b : ℕ) (o : Option OpenElement) → s.here ≡ o → Hand o s.lexical.mode s s.positions.used items bytes → IsCountedHand s b p.now.phase p.hand ⊎ IsFreeHand s b p.now.phase p.hand
    kind b None is h = none_kind b (ap is_some is) s.lexical.mode refl h
    kind b (Some o) is h = inl (element_hand b o h.0 h.1 (ap is_some is))

    kind_there : (b : ℕ) → IsCountedHand s b p.now.phase p.hand ⊎ IsFreeHand s b p.now.phase p.hand
    kind_there b = kind b s.here refl (read_at limits few_bytes few short bytes none).hand

  -- ---- one prefix

  one_prefix : (given : List Item) (part : Option ℕ) (q : IsPrefix limits bytes given part) → (q.done ≡ known.done) × (q.hand ≡ known.hand)
  one_prefix given part q =
      let p = known in
      let less = p.longest q.now q.done q.hand given q.stream q.bytes_are (q.within few_bytes) in
      let most = q.longest p.now p.done p.hand items p.stream p.bytes_are (p.within few_bytes) in
      same_front q.done q.hand p.done p.hand (sym q.bytes_are ∙ p.bytes_are) (omega (arith, less, most))

  phase_of : (given : List Item) (part : Option ℕ) (q : IsPrefix limits bytes given part) → q.now.phase ≡ known.now.phase
  phase_of given part q =
      let same = (one_prefix given part q).0 in
      let moved = subst (λ l. (y : StreamTo q.now l given) × IsStreamWithin limits q.now l given y) same (q.stream, q.within few_bytes) in
      one_phase q.now known.now known.done given items moved.0 known.stream moved.1 (known.within few_bytes)

  -- ---- both ways

  part_position : (n : ℕ) → part_of s ≡ Some n → 0 < length known.hand → n ≡ position_of (length known.done)
  part_position n is some = there known.hand some (sym is ∙ known.part_is)
    where
      there : (hand : List ℕ) → 0 < length hand → Some n ≡ (if is_empty hand then None else Some (position_of (length known.done))) → n ≡ position_of (length known.done)
      there [] h e = absurd (omega (arith, h))
      there (x ∷ xs) h e = cc

  pub long_is : (b at_offset : ℕ) → is_too_long s b ≡ true → fault_of limits (bytes ++ b ∷ []) ≡ Some (record { at = at_offset; why = why.TooLong }) → IsLong limits bytes b at_offset
  unfolding framed
  long_is b at_offset far is = by_kind (kind_there known b)
    where
      by_kind : IsCountedHand s b known.now.phase known.hand ⊎ IsFreeHand s b known.now.phase known.hand → IsLong limits bytes b at_offset
      by_kind (inr free_hand) = let f = far_parts s b far in let some = f.0 in let no = free_hand.unused in absurd (omega (arith, some, no))
      by_kind (inl h) =
          let f = far_parts s b far in
          let most = f.1 in
          let used = h.used_is in
          let told = long_told limits bytes b few short none far in
          let position = part_position told.0 told.1 h.some in
          let both : ◌≡◌ {A = Option Fault} (Some (record { at = at_offset; why = why.TooLong })) (Some (record { at = told.0; why = why.TooLong })) = sym is ∙ ap (λ (u : Turn). u.state.fault) (run_append (turn (from_start limits) []) bytes (b ∷ [])) ∙ told.2 in
          let offset : at_offset ≡ told.0 = same_offset at_offset told.0 both in
          record { items = items; part = part_of s; prefix = known; full = subst (λ (l : Limits). l.bytes ≤ length known.hand) (limits_are limits few_bytes few short bytes none) (omega (arith, most, used)); limited = h.shows f.2; at_is = offset ∙ position }

  pub long_far : (b at_offset : ℕ) → IsLong limits bytes b at_offset → is_too_long s b ≡ true
  long_far b at_offset l = by_kind (kind_there known b)
    where
      one : (l.prefix.done ≡ known.done) × (l.prefix.hand ≡ known.hand)
      one = one_prefix l.items l.part l.prefix

      limited : HasLimit known.now.phase (known.hand ++ b ∷ [])
      limited = subst (λ f. HasLimit f (known.hand ++ b ∷ [])) (phase_of l.items l.part l.prefix) (subst (λ x. HasLimit l.prefix.now.phase (x ++ b ∷ [])) one.1 l.limited)

      by_kind : IsCountedHand s b known.now.phase known.hand ⊎ IsFreeHand s b known.now.phase known.hand → is_too_long s b ≡ true
      by_kind (inr free_hand) = absurd (free_hand.no_limit limited)
      by_kind (inl h) =
          let full = l.full in
          let n = ap length one.1 in
          let used = h.used_is in
          let some = h.some in
          far_from s b (omega (arith, some, used)) (subst (λ (x : Limits). x.bytes ≤ s.positions.used) (sym (limits_are limits few_bytes few short bytes none)) (omega (arith, full, n, used))) (h.limited limited)

  pub long_decides : (b at_offset : ℕ) → IsLong limits bytes b at_offset → fault_of limits (bytes ++ b ∷ []) ≡ Some (record { at = at_offset; why = why.TooLong })
  unfolding framed
  long_decides b at_offset l =
      let told = long_told limits bytes b few short none (long_far b at_offset l) in
      let one = one_prefix l.items l.part l.prefix in
      let n = ap length one.1 in
      let used = far_parts s b (long_far b at_offset l) in
      let some : 0 < length known.hand = hand_some (kind_there known b) used.0 in
      let position = part_position told.0 told.1 some in
      let offset : at_offset ≡ told.0 = l.at_is ∙ ap (λ d. position_of (length d)) one.0 ∙ sym position in
      ap (λ (u : Turn). u.state.fault) (run_append (turn (from_start limits) []) bytes (b ∷ [])) ∙ told.2 ∙ ap (λ m. Some (record { at = m; why = why.TooLong })) (sym offset)
    where
      hand_some : IsCountedHand s b known.now.phase known.hand ⊎ IsFreeHand s b known.now.phase known.hand → 0 < s.positions.used → 0 < length known.hand
      hand_some (inl h) used = h.some
      hand_some (inr h) used = let no = h.unused in absurd (omega (arith, no, used))
