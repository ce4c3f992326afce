-- What the server reads of a submission, and where it is addressed to.
use Rattle.std.proofs.Common.{◌≡◌, ℕ, ◌+◌, ◌≤◌, Bool, true, false, List, [], ◌∷◌, ◌++◌, Some, None, Ok, length, drop, refl, sym, ap, ◌∙◌, arith, inl, inr, if◌then◌else◌}
use Rattle.std.proofs.Math.Seq.{drop-append-add}
use Rattle.std.proofs.lemmas.Bool.{cases_lt, lt-ltb}
use Rattle.std.proofs.lemmas.List.{length-append, take_all}
use Rattle.std.proofs.lemmas.Option.{none-some}
use Rattle.std.specs.List.{after_first, before_first, position_or_len}
use Rattle.std.specs.List.Sorted.{IsStrictlySortedBy}
use Rattle.std.specs.Option.{option_and_then}
use Rattle.std.specs.Prelude.{nat_lt}
use Rattle.std.specs.Str.{bytes_eq}
use Rattle.base_lemmas.proofs.Bytes.{bytes_eq-self}
use Rattle.base_io.specs.Names.{position_of}
use Rattle.sim_5_moves.proofs.Sends.{elem_in}
use Rattle.sim_5_moves.specs.Heard.{IsSubmission, address_in}
use Rattle.sim_3_items.proofs.TextsTold.{before_it, no_at, position}
use Rattle.im_jid.specs.Cuts.{bare_len, bare_of, domain_of, domain_of_bare, domain_start, is_at, is_slash, local_of, local_of_bare, resource_of}
use Rattle.srv_login.specs.Accounts.{names_of}
use Rattle.srv_login.specs.declared.account.Account.{Account}
use Rattle.srv_state.specs.State.{ServerState}
use Rattle.sm_outbox.specs.Submissions.{origin_of}
use Rattle.im_requests.specs.Messages.{private_nodes, submission_nodes}
use Rattle.srv_route.specs.Destinations.{RemoteDomain, at_user, destination_at}
use Rattle.cmd_schedule.specs.Grammar.{is_name}
use Rattle.sim_1_applications.specs.Stanzas.{Submission}
use Rattle.im_stanza.proofs.WrittenLaws.{message_read}
use Rattle.im_stanza.specs.Readings.{stanza_of}
use Rattle.im_stanza.specs.Views.{MessageView}
use Rattle.im_stanza.specs.declared.kinds.MessageKind.TheVariants.{Chat}
use Rattle.im_stanza.specs.declared.stanzas.Stanza.TheVariants.{Message}
use Rattle.xml_trees.proofs.TidyLaws.{tidy_end}
use Rattle.xml_trees.specs.Trees.{AreTidy, Elem}
use Rattle.xml_writer.specs.Items.{ItemOut}

-- ---- the message

abbrev pub message_of : List ℕ → Submission → ServerState ItemOut → MessageView
message_of resource m h = record {
  from = None;
  to = Some (address_in m h);
  id = origin_of resource m.epoch m.n;
  kind = Chat;
  lang = [];
  payload = submission_nodes (origin_of resource m.epoch m.n) m.text m.private;
}

private_tidy : (private : Bool) → AreTidy (private_nodes private)
unfolding IsStrictlySortedBy
private_tidy true = ((tt, tt), tt)
private_tidy false = tt

pub stanza_is : (resource : List ℕ) (m : Submission) (h : ServerState ItemOut) (e : Elem) → IsSubmission resource m h e → stanza_of e ≡ Ok (Message (message_of resource m h))
unfolding IsStrictlySortedBy
stanza_is resource m h e is =
    let tidy : AreTidy (submission_nodes (origin_of resource m.epoch m.n) m.text m.private) = ((tt, tidy_end m.text), (((tt, tt), tt), private_tidy m.private)) in
    ap (λ z. stanza_of (elem_in z)) (sym is.item) ∙ message_read (message_of resource m h) tt is.normal tidy

-- ---- where it goes

module _ (name domain : List ℕ) (is : is_name name ≡ true) (whole : resource_of (name ++ 64 ∷ domain) ≡ None) where
  abbrev address : List ℕ
  address = name ++ 64 ∷ domain

  long : length address ≤ bare_len address
  long = elim (cases_lt (bare_len address) (length address)) [
    | inl short ↦
        let cut : resource_of address ≡ Some (after_first is_slash address) = ap (λ b. if b then Some (after_first is_slash address) else None) (lt-ltb (bare_len address) (length address) short) in
        absurd (none-some _ (sym whole ∙ cut))
    | inr all ↦ all
  ]

  bare_is : bare_of address ≡ address
  bare_is = take_all (bare_len address) address long

  at_position : position_or_len is_at address ≡ length name
  at_position = position is_at name 64 domain (no_at name is) refl

  has : nat_lt (position_or_len is_at address) (length address) ≡ true
  has = lt-ltb (position_or_len is_at address) (length address) (omega (arith, at_position, length-append name (64 ∷ domain)))

  local_is : local_of address ≡ Some name
  local_is =
      ap local_of_bare bare_is ∙ ap (λ b. if b then Some (before_first is_at address) else None) has ∙ ap Some (before_it is_at name 64 domain (no_at name is) refl)

  start_is : domain_start address ≡ length name + 1
  start_is = ap (λ b. if b then position_or_len is_at address + 1 else 0) has ∙ ap (λ n. n + 1) at_position

  domain_is : domain_of address ≡ domain
  domain_is = ap domain_of_bare bare_is ∙ ap (λ n. drop n address) start_is ∙ drop-append-add name (64 ∷ domain) 1

  pub destination_is : (accounts : List Account) → destination_at domain accounts address ≡ at_user (position_of name (names_of accounts)) None
  destination_is accounts =
      ap (λ d. if bytes_eq d domain then at_user (option_and_then (λ t. position_of t (names_of accounts)) (local_of address)) (resource_of address) else RemoteDomain) domain_is
      ∙ ap (λ b. if b then at_user (option_and_then (λ t. position_of t (names_of accounts)) (local_of address)) (resource_of address) else RemoteDomain) (bytes_eq-self domain)
      ∙ (λ i. at_user (option_and_then (λ t. position_of t (names_of accounts)) (local_is i)) (whole i))
