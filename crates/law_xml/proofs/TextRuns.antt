-- The machine reads what spells a text (XML 1.0, sections 2.4, 2.7, 2.11 and 4.1).
use Rattle.std.proofs.Common.{◌≡◌, ℕ, ◌+◌, true, false, List, [], ◌∷◌, ◌++◌, Some, codes, encode_utf8, length, refl, sym, ap, subst, ◌∙◌, arith, append_assoc, append-nil, length-append}
use Rattle.std.specs.List.{list_all}
use Rattle.std.specs.Option.{is_some}
use Rattle.xml_tokens.proofs.Utf8Runs as runs
use Rattle.xml_tokens.specs.Characters.{are_characters, are_characters_after, is_white}
use Rattle.xml_tokens.specs.References.{referred}
use Rattle.xml_tokens.specs.Utf8.{utf8_next, utf8_run}
use Rattle.xml_tokens.specs.declared.references.Reference.TheVariants.{Character}
use Rattle.law_xml.proofs.ByteSteps.{Goes, Room, first_room, goes_then, kept_room, room}
use Rattle.law_xml.proofs.DataRuns.{Said, data_fresh, white_goes}
use Rattle.law_xml.proofs.HeldBytes.{cut, parted}
use Rattle.law_xml.proofs.Quiet.{HasRoom, HasSaid, IsFresh, IsQuiet}
use Rattle.law_xml.proofs.ReferenceRuns.{Fresh, reference_runs}
use Rattle.law_xml.proofs.SectionRuns.{section_runs}
use Rattle.xml_framer.specs.Machine.{run}
use Rattle.xml_framer.specs.States.{OpenElement, State, turn}
use Rattle.law_xml.specs.Texts.{IsCharacterData, IsText, SpellsText, data_alone, with_reference, with_section, has_section_end}
use Rattle.xml_tokens.specs.Lines.{line_ends}
use Rattle.xml_framer.specs.declared.items.Item.{Item}

-- ---- a text in its parts

abbrev reference : List ℕ → List ℕ
reference name = 38 ∷ (name ++ 59 ∷ [])

abbrev section : List ℕ → List ℕ
section held = codes "<![CDATA[" ++ (held ++ codes "]]>")

-- bytes say this, from each state behind a token in an element
abbrev IsRead : List ℕ → List ℕ → Type 0
IsRead bytes says = (s : State) (items : List Item) (o : OpenElement) (a c : ℕ) → IsFresh s → s.here ≡ Some o → Room s (length bytes) → are_characters_after a c bytes ≡ true → utf8_run [] bytes ≡ Some []
    → Goes s items bytes (λ t. Said t (s.chars ++ says))

-- no character is in hand behind `![CDATA[`, nor behind `]>`
opening_utf8 : (rest : List ℕ) → utf8_run [] (codes "![CDATA[" ++ rest) ≡ utf8_run [] rest
unfolding utf8_next
opening_utf8 rest = refl

closing_utf8 : (rest : List ℕ) → utf8_run [] (93 ∷ 62 ∷ rest) ≡ utf8_run [] rest
unfolding utf8_next
closing_utf8 rest = refl

-- character data, one reference or section, and a text
then_reads : (plain token rest said more : List ℕ) → IsCharacterData plain → IsRead rest more
    → utf8_run [] (plain ++ (token ++ rest)) ≡ Some [] → utf8_run [] plain ≡ Some [] → utf8_run [] rest ≡ Some []
    → ((t : State) (items : List Item) (o : OpenElement) (a c : ℕ) → IsQuiet t → t.here ≡ Some o → Room t (length token) → are_characters_after a c token ≡ true → Goes t items token (λ u. Fresh u (t.chars ++ said)))
    → (s : State) (items : List Item) (o : OpenElement) (a c : ℕ) → IsFresh s → s.here ≡ Some o → Room s (length (plain ++ (token ++ rest))) → are_characters_after a c (plain ++ (token ++ rest)) ≡ true
    → Goes s items (plain ++ (token ++ rest)) (λ v. Said v (s.chars ++ (line_ends plain ++ (said ++ more))))
then_reads plain token rest said more good ih utf8 utf8_plain utf8_rest reads s items o a c fresh here fits all =
    let text = s.chars ++ (line_ends plain ++ (said ++ more)) in
    let p = parted a c plain (token ++ rest) all in
    let q = parted p.before p.last token rest p.second in
    let first : Room s (length plain + (length token + length rest)) = subst (Room s) (length-append plain (token ++ rest) ∙ ap (λ n. length plain + n) (length-append token rest)) fits in
    goes_then s items plain (token ++ rest) (λ t. Said t (s.chars ++ line_ends plain)) (λ v. Said v text)
    (data_fresh s items o a c fresh here plain (first_room s (length plain) (length token + length rest) first) good p.first utf8_plain)
    (λ t kept_t said_t.
    let second : Room t (length token + length rest) = kept_room s t (length plain) (length token + length rest) (length plain + (length token + length rest)) refl kept_t first in
    let here_t : t.here ≡ Some o = kept_t.alike.here ∙ here in
    goes_then t items token rest (λ u. Fresh u (t.chars ++ said)) (λ v. Said v text)
    (reads t items o p.before p.last said_t.quiet here_t (first_room t (length token) (length rest) second) q.first)
    (λ u kept_u fresh_u.
    let third : Room u (length rest) = kept_room t u (length token) (length rest) (length token + length rest) refl kept_u second in
    let whole : u.chars ++ more ≡ text =
    ap (λ l. l ++ more) (fresh_u.chars ∙ ap (λ l. l ++ said) said_t.chars)
    ∙ append_assoc (s.chars ++ line_ends plain) said more ∙ append_assoc s.chars (line_ends plain) (said ++ more) in
    subst (λ l. Goes u items rest (λ v. Said v l)) whole (ih u items o q.before q.last fresh_u.fresh (kept_u.alike.here ∙ here_t) third q.second utf8_rest)))

reference_reads : (plain name rest more : List ℕ) (c : ℕ) → IsCharacterData plain → referred name ≡ Character c → IsRead rest more → IsRead (plain ++ (reference name ++ rest)) (line_ends plain ++ (encode_utf8 c ++ more))
reference_reads plain name rest more c good e ih s items o a b fresh here fits all utf8 =
    let first = cut [] plain 38 ((name ++ 59 ∷ []) ++ rest) (omega arith) utf8 in
    let second = cut [] name 59 rest (omega arith) (ap (utf8_run []) (sym (append_assoc name (59 ∷ []) rest)) ∙ first.1) in
    then_reads plain (reference name) rest (encode_utf8 c) more good ih utf8 first.0 second.1
    (λ t items o a b q here_t fits_t all_t. reference_runs t items o name c q here_t fits_t e second.0)
    s items o a b fresh here fits all

section_reads : (plain held rest more : List ℕ) → IsCharacterData plain → has_section_end held ≡ false → IsRead rest more → IsRead (plain ++ (section held ++ rest)) (line_ends plain ++ (line_ends held ++ more))
section_reads plain held rest more good none ih s items o a b fresh here fits all utf8 =
    let first = cut [] plain 60 (codes "![CDATA[" ++ ((held ++ codes "]]>") ++ rest)) (omega arith) utf8 in
    let inner : utf8_run [] (held ++ 93 ∷ (93 ∷ 62 ∷ rest)) ≡ Some [] = ap (utf8_run []) (sym (append_assoc held (codes "]]>") rest)) ∙ sym (opening_utf8 ((held ++ codes "]]>") ++ rest)) ∙ first.1 in
    let second = cut [] held 93 (93 ∷ 62 ∷ rest) (omega arith) inner in
    then_reads plain (section held) rest (line_ends held) more good ih utf8 first.0 (sym (closing_utf8 rest) ∙ second.1)
    (λ t items o a b q here_t fits_t all_t.
    let p = parted a b (codes "<![CDATA[") (held ++ codes "]]>") all_t in
    let r = parted p.before p.last held (codes "]]>") p.second in
    section_runs t items o p.before p.last held q here_t fits_t none r.first second.0)
    s items o a b fresh here fits all

spelled_reads : (bytes says : List ℕ) → SpellsText bytes says → IsRead bytes says
spelled_reads bytes says (data_alone bytes' says' good is) =
    subst (IsRead bytes') (sym is) (λ s items o a c fresh here fits all utf8. data_fresh s items o a c fresh here bytes' fits good all utf8)
spelled_reads bytes says (with_reference bytes' says' plain name rest more c good e spelled bytes_are says_is) =
    let whole : plain ++ (reference name ++ rest) ≡ bytes' = ap (λ l. plain ++ (38 ∷ l)) (append_assoc name (59 ∷ []) rest) ∙ sym bytes_are in
    subst (IsRead bytes') (sym says_is) (subst (λ l. IsRead l (line_ends plain ++ (encode_utf8 c ++ more))) whole (reference_reads plain name rest more c good e (spelled_reads rest more spelled)))
spelled_reads bytes says (with_section bytes' says' plain held rest more good none spelled bytes_are says_is) =
    let whole : plain ++ (section held ++ rest) ≡ bytes' = ap (λ l. plain ++ (codes "<![CDATA[" ++ l)) (append_assoc held (codes "]]>") rest) ∙ sym bytes_are in
    subst (IsRead bytes') (sym says_is) (subst (λ l. IsRead l (line_ends plain ++ (line_ends held ++ more))) whole (section_reads plain held rest more good none (spelled_reads rest more spelled)))

-- ---- what is read

has_said : (s : State) (items : List Item) (bytes says : List ℕ) → Goes s items bytes (λ t. Said t (s.chars ++ says)) → (t : State) × (run (turn s items) bytes ≡ turn t items) × HasSaid s t bytes says
has_said s items bytes says g = (g.state, g.runs, record { alike = g.kept.alike; quiet = g.holds.quiet; chars = g.holds.chars; used = g.kept.used; item_at = g.kept.item_at })

-- In an element, behind a token: the bytes that spell a text are read as what they say.
pub text_run : (s : State) (items : List Item) (bytes says : List ℕ) (o : OpenElement) → IsFresh s → s.here ≡ Some o → HasRoom s bytes → IsText bytes says → (t : State) × (run (turn s items) bytes ≡ turn t items) × HasSaid s t bytes says
unfolding are_characters
text_run s items bytes says o fresh here fits h =
    has_said s items bytes says (spelled_reads bytes says h.spelled s items o 0 0 fresh here (room s bytes fresh.quiet.counted fits) h.characters.characters (runs.text_runs bytes h.characters.utf8))

-- White space outside elements says nothing, gives nothing and is counted nowhere (XML 1.0, section 2.8; RFC 6120, section 11.7).
pub white_run : (s : State) (items : List Item) (bytes : List ℕ) → IsQuiet s → is_some s.here ≡ false → list_all is_white bytes ≡ true → (t : State) × (run (turn s items) bytes ≡ turn t items) × HasSaid s t bytes []
white_run s items bytes q outer white = has_said s items bytes [] (subst (λ l. Goes s items bytes (λ t. Said t l)) (sym (append-nil s.chars)) (white_goes bytes s items q outer white))
