-- How many ends, and how many requests, there are in what is put.
use Rattle.std.proofs.Common.{◌≡◌, ◌≤◌, ◌+◌, ◌-◌, ℕ, zero, suc, Bool, true, false, List, [], ◌∷◌, ◌++◌, Option, Some, None, map, take, refl, if◌then◌else◌, arith}
use Rattle.std.specs.Prelude.{nat_le}
use Rattle.sim_2_links.proofs.Many.{many_append}
use Rattle.sim_2_links.specs.Paging.{many, one_if}
use Rattle.sim_5_devices.specs.InTime.{is_end, is_query}
use Rattle.sim_1_applications.specs.Answers.{edge, following, is_position, last_in, page_answer_of, page_from, size}
use Rattle.sim_1_applications.specs.Events as events
use Rattle.sim_1_applications.specs.Stanzas.{Bounced, Carbons, Down, Fin, Message, NotFound, Presence, Query, Request, Res, Up}

pub many_take : {A : Type 0} (test : A → Bool) (n : ℕ) (l : List A) → many test (take n l) ≤ many test l
many_take test zero l = omega arith
many_take test (suc n) [] = omega arith
many_take test (suc n) (x ∷ l) = let rest = many_take test n l in omega arith

no_ends : (q : ℕ) (ns : List ℕ) → many is_end (map (Res q) ns) ≡ 0
no_ends q [] = refl
no_ends q (n ∷ ns) = let rest = no_ends q ns in omega arith

page_ends : (low first last : ℕ) (r : Request) → many is_end (page_from low first last r) ≡ 1
page_ends low first last r =
    let ns = following low (size low last r.max) in
    let end = Fin r.number (nat_le (last - low) r.max) (last_in ns) (last + 1 - first) in
    let both = many_append is_end (map (Res r.number) ns) (end ∷ []) in
    let none = no_ends r.number ns in
    omega arith

answer_ends : (first last : ℕ) (r : Request) → many is_end (page_answer_of first last r) ≤ 1
answer_ends first last r = by (is_position first last r.after)
  where
    by : (b : Bool) → (let zs : List Down = if b then page_from (edge first r.after) first last r else NotFound r.number ∷ [] in many is_end zs ≤ 1)
    by true = let one = page_ends (edge first r.after) first last r in omega arith
    by false = omega arith

bounce_ends : (b : Bool) (e n : ℕ) → (let zs : List Down = if b then [] else Bounced e n ∷ [] in many is_end zs ≤ 0)
bounce_ends true e n = omega arith
bounce_ends false e n = omega arith

reply_whole : (a : events.Around) (z : Up) → many is_end (events.reply a z) ≤ one_if (is_query z)
reply_whole a Carbons = omega arith
reply_whole a Presence = omega arith
reply_whole a (Message m) = bounce_ends (events.is_among m.to a.accounts) m.epoch m.n
reply_whole a (Query r) = answer_ends a.first a.last r

-- a reply ends a page at most where it is one to a request
pub reply_ends : (a : events.Around) (fits : ℕ) (z : Up) → many is_end (take fits (events.reply a z)) ≤ one_if (is_query z)
reply_ends a fits z = let some = many_take is_end fits (events.reply a z) in let whole = reply_whole a z in omega arith

-- one more, behind or before
pub many_more : {A : Type 0} (test : A → Bool) (got rest : List A) (z : A) → many test ((got ++ z ∷ []) ++ rest) ≡ many test (got ++ z ∷ rest)
many_more test got rest z =
    let a = many_append test (got ++ z ∷ []) rest in
    let b = many_append test got (z ∷ []) in
    let c = many_append test got (z ∷ rest) in
    omega arith

pub queries_one : (o : Option Request) → many is_query (events.queries o) ≤ 1
queries_one None = omega arith
queries_one (Some r) = omega arith
