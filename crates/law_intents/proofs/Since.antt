-- A moment after which takes of a device are of an epoch or of later ones.
use Rattle.std.proofs.Common.{◌≡◌, ℕ, ◌≤◌, List, [], ◌∷◌, ◌++◌, refl, sym, ap, ◌∙◌, subst, append_assoc}
use Rattle.std.specs.List.{AllByRecursion, filter}
use Rattle.std.proofs.lemmas.List.{append-nil}
use Rattle.std.proofs.lemmas.List.Elements.{filter-append}
use Rattle.sim_1_applications.specs.Devices.{Take, last_of}
use Rattle.sim_1_applications.specs.Kept.{is_of}
use Rattle.sim_1_applications.proofs.Lists.{all_append}

-- since the account's archive had given the number l, takes of the device are of epoch e or of later ones
pub record Since (i e l : ℕ) (account : List ℕ) (takes : List Take) : Type 0 where
  pub front : List Take
  pub back : List Take
  pub are : takes ≡ front ++ back
  pub later : AllByRecursion (λ t. e ≤ t.said.epoch) (filter (is_of i) back)
  pub low : last_of front account ≡ l

pub since_now : (i e : ℕ) (account : List ℕ) (takes : List Take) → Since i e (last_of takes account) account takes
since_now i e account takes = record { front = takes; back = []; are = sym (append-nil takes); later = tt; low = refl }

pub since_more : (i e l : ℕ) (account : List ℕ) (takes new : List Take) → AllByRecursion (λ t. e ≤ t.said.epoch) (filter (is_of i) new) → Since i e l account takes →
    Since i e l account (takes ++ new)
since_more i e l account takes new later since = record {
  front = since.front;
  back = since.back ++ new;
  are = ap (λ ts. ts ++ new) since.are ∙ append_assoc since.front since.back new;
  later = subst (AllByRecursion (λ t. e ≤ t.said.epoch)) (sym (filter-append (is_of i) since.back new))
      (all_append (λ t. e ≤ t.said.epoch) (filter (is_of i) since.back) (filter (is_of i) new) since.later later);
  low = since.low;
}
