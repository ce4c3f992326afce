-- Steps of a resumption, one behind the other.
use Rattle.std.proofs.Common.{◌≡◌, ℕ, List, [], ◌∷◌, Option, Some, None, Ok, false, length, refl, sym, ap, ◌∙◌}
use Rattle.std.proofs.lemmas.List.{length-map}
use Rattle.std.specs.Prelude.{nat_le}
use Rattle.srv_state.specs.State.{Step}
use Rattle.srv_state.specs.Steps.{Act, Ask, Resume, Say, acted, part_where, put}
use Rattle.srv_state.specs.Streams.{parting_where}
use Rattle.srv_state.specs.declared.limits.TheConstants.{ASKS_AT}
use Rattle.base_io.specs.Listed.{Listed}
use Rattle.sm_acks.specs.Queues.{stanzas_in}
use Rattle.im_replies.specs.Management.{resumed_item}
use Rattle.im_replies.specs.Streams.{error_item}
use Rattle.im_replies.specs.declared.conditions.StreamCondition.TheVariants as stream
use Rattle.sm_resumption.specs.declared.answers.ResumeOk.{ResumeOk}
use Rattle.srv_handlers.specs.Resumptions.{asking, resuming, saying}
use Rattle.xml_writer.specs.Items.{ItemOut}

acted_saying : (say : ItemOut → List ℕ) (k : ℕ) (items : List (List ℕ)) (more : List (Act (List ℕ))) (s : Step (List ℕ)) → acted say more (acted say (saying k items []) s) ≡ acted say (saying k items more) s
acted_saying say k [] more s = refl
acted_saying say k (a ∷ items) more s = acted_saying say k items more (put k a s)

acted_parting : (say : ItemOut → List ℕ) (o : Option ℕ) (error : List ℕ) (more : List (Act (List ℕ))) (s : Step (List ℕ)) → acted say more (part_where say o error s) ≡ acted say (parting_where say o error more) s
acted_parting say None error more s = refl
acted_parting say (Some k) error more s = refl

-- the first steps of a resumption
abbrev pub moved : ℕ → ℕ → List ℕ → ℕ → ResumeOk → List (Act (List ℕ))
moved k account previd h r = Resume previd account h k ∷ Ask r.number false ∷ []

all_steps : (say : ItemOut → List ℕ) (k account h : ℕ) (previd : List ℕ) (r : ResumeOk) (waiting : List (List ℕ)) (s : Step (List ℕ)) →
    acted say (asking say k r.number (nat_le ASKS_AT (length waiting))) (acted say (saying k waiting []) (put k (say (resumed_item r.number r.handled)) (part_where say r.former (say (error_item stream.Conflict)) (acted say (moved k account previd h r) s))))
    ≡ acted say (resuming say k account previd h (Ok r) waiting) s
all_steps say k account h previd r waiting s =
    let asked = asking say k r.number (nat_le ASKS_AT (length waiting)) in
    let told = Say k (say (resumed_item r.number r.handled)) in
    let parted = part_where say r.former (say (error_item stream.Conflict)) (acted say (moved k account previd h r) s) in
    acted_saying say k waiting asked (put k (say (resumed_item r.number r.handled)) parted)
    ∙ acted_parting say r.former (say (error_item stream.Conflict)) (told ∷ saying k waiting asked) (acted say (moved k account previd h r) s)

-- all of a resumption, by what each call made of the step before it
pub gone_on : (say : ItemOut → List ℕ) (k account h count : ℕ) (previd conflict answer : List ℕ) (r : ResumeOk) (list : List (Listed ℕ)) (waiting : List (List ℕ)) (old begun attached parted put_on said asked : Step (List ℕ)) →
    conflict ≡ say (error_item stream.Conflict) → answer ≡ say (resumed_item r.number r.handled) → stanzas_in list ≡ waiting → count ≡ length list → begun ≡ old → attached ≡ acted say (moved k account previd h r) begun →
    parted ≡ part_where say r.former conflict attached → put_on ≡ put k answer parted → said ≡ acted say (saying k (stanzas_in list) []) put_on → asked ≡ acted say (asking say k r.number (nat_le ASKS_AT count)) said →
    asked ≡ acted say (resuming say k account previd h (Ok r) waiting) old
gone_on say k account h count previd conflict answer r list waiting old begun attached parted put_on said asked conflict_is answer_is all counted same attaches parts puts says asks =
    let size : count ≡ length waiting = counted ∙ sym (length-map list (λ (bytes : Listed ℕ). bytes.items)) ∙ ap length all in
    let at_attached : attached ≡ acted say (moved k account previd h r) old = attaches ∙ ap (acted say (moved k account previd h r)) same in
    let at_parted : parted ≡ part_where say r.former (say (error_item stream.Conflict)) (acted say (moved k account previd h r) old) = parts ∙ ap (λ e. part_where say r.former e attached) conflict_is ∙ ap (part_where say r.former (say (error_item stream.Conflict))) at_attached in
    let at_put : put_on ≡ put k (say (resumed_item r.number r.handled)) _ = puts ∙ ap (λ a. put k a parted) answer_is ∙ ap (put k (say (resumed_item r.number r.handled))) at_parted in
    let at_said : said ≡ acted say (saying k waiting []) _ = says ∙ ap (λ items. acted say (saying k items []) put_on) all ∙ ap (acted say (saying k waiting [])) at_put in
    asks ∙ ap (λ n. acted say (asking say k r.number (nat_le ASKS_AT n)) said) size ∙ ap (acted say (asking say k r.number (nat_le ASKS_AT (length waiting)))) at_said ∙ all_steps say k account h previd r waiting old
