-- What a state has of the token in hand, from what is known behind bytes.
use Rattle.std.proofs.Common.{◌≡◌, ℕ, Bool, true, false, if◌then◌else◌, List, [], ◌∷◌, None, codes, drop, length, refl, sym, ap, ◌∙◌, arith}
use Rattle.std.proofs.lemmas.Bool.{false≢true}
use Rattle.law_xml.proofs.OffsetMarks.{Mark, fronts}
use Rattle.law_xml.proofs.OffsetRuns.{Known, known_of}
use Rattle.law_xml.proofs.OffsetTags.{Spot}
use Rattle.law_xml.proofs.TextFronts.{counted_behind}
use Rattle.law_xml.specs.Hands.{AreKept, IsNoneHeld, IsRunHeld, IsTokenHeld, brackets_last}
use Rattle.xml_framer.specs.Machine.{run}
use Rattle.xml_framer.specs.Readings.{fault_of, framed}
use Rattle.xml_framer.specs.States.{State, from_start, is_text, token_position, turn}
use Rattle.xml_framer.specs.TextSteps.{brackets_after}
use Rattle.xml_framer.specs.declared.limits.Limits.{Limits}
use Rattle.xml_framer.specs.declared.states.Mode.{Mode}
use Rattle.xml_framer.specs.declared.states.Mode.TheVariants as mode

counted_is : (n : ℕ) (bs : List ℕ) → counted_behind n bs ≡ brackets_last n bs
counted_is n [] = refl
counted_is n (b ∷ bs) = counted_is (brackets_after n b) bs

pub are_kept : (m : Mode) (s : State) (more : List ℕ) → is_text m ≡ false → Spot m s.lexical.quote more → Mark m s more → AreKept m s more
are_kept mode.Text s more e spot h = absurd (false≢true (sym e))
are_kept mode.Reference s more e spot h = (h, spot)
are_kept mode.Opening s more e spot h = (h.0 ∙ ap (λ l. 60 ∷ l) (sym spot.0), spot.0)
are_kept mode.Bang s more e spot h =
    let most = h.1.1 in (h.0, drop (length s.token) (codes "<![CDATA["), fronts s.token more (codes "![CDATA[") h.0 h.1.0, spot, omega (arith, ap length h.0, most))
are_kept mode.Question s more e spot h = (h.0, drop (length s.token) (codes "<?xml"), fronts s.token more (codes "?xml") h.0 h.1.0, spot)
are_kept mode.Declaration s more e spot h = let d = h.1 in (h.0, d.space, d.inside, d.is, d.is_space, d.no_end)
are_kept mode.Tag s more e spot h = (h, spot.1, spot.2, spot.3, spot.0)
are_kept mode.Footer s more e spot h = (spot.1, spot.2, spot.3, spot.4)
are_kept mode.Section s more e spot h = (h.inside, h.is, h.no_end, λ none. h.counts none ∙ counted_is 0 h.inside)

position : (s : State) (run : Bool) → is_text s.lexical.mode ≡ true → s.lexical.in_run ≡ run → token_position s ≡ (if run then s.positions.token_at else s.positions.at)
position s true text is = rw (text, is) refl
position s false text is = rw (text, is) refl

module _ (s : State) (bytes : List ℕ) (h : Known s bytes) where
  pub token_held : is_text s.lexical.mode ≡ false → IsTokenHeld s bytes
  token_held no_text =
      let k = h.token no_text in
      record { before = k.before; more = k.more; bytes_are = k.bytes_are; at_is = k.at_is; ahead = k.ahead; kept = are_kept s.lexical.mode s k.more no_text k.spot k.mark }

  pub run_held : is_text s.lexical.mode ≡ true → s.lexical.in_run ≡ true → IsRunHeld s bytes
  run_held text is =
      let k = h.running text is in
      record { before = k.before; text = k.token; bytes_are = k.bytes_are; at_is = position s true text is ∙ k.at_is; ahead = k.after; is_run = k.plain; held = k.left; counts = λ inner none. k.counts inner none ∙ counted_is 0 k.token }

  pub none_held : is_text s.lexical.mode ≡ true → s.lexical.in_run ≡ false → IsNoneHeld s bytes
  none_held text is = let k = h.between text is in record { tokens = k.0; at_is = position s false text is ∙ h.at; none_held = k.1 }

pub token_told : (limits : Limits) (bytes : List ℕ) → fault_of limits bytes ≡ None → is_text (framed limits bytes).state.lexical.mode ≡ false → IsTokenHeld (framed limits bytes).state bytes
unfolding framed
token_told limits bytes none = token_held (run (turn (from_start limits) []) bytes).state bytes (known_of limits bytes none)

pub run_told : (limits : Limits) (bytes : List ℕ) → fault_of limits bytes ≡ None → is_text (framed limits bytes).state.lexical.mode ≡ true → (framed limits bytes).state.lexical.in_run ≡ true
    → IsRunHeld (framed limits bytes).state bytes
unfolding framed
run_told limits bytes none = run_held (run (turn (from_start limits) []) bytes).state bytes (known_of limits bytes none)

pub none_told : (limits : Limits) (bytes : List ℕ) → fault_of limits bytes ≡ None → is_text (framed limits bytes).state.lexical.mode ≡ true → (framed limits bytes).state.lexical.in_run ≡ false
    → IsNoneHeld (framed limits bytes).state bytes
unfolding framed
none_told limits bytes none = none_held (run (turn (from_start limits) []) bytes).state bytes (known_of limits bytes none)
