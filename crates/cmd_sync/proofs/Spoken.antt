-- A talk over a link, a piece more.
use Rattle.std.proofs.Common.{◌≡◌, ℕ, suc, zero-add, ◌+◌, true, List, [], ◌∷◌, ◌++◌, length, take, Option, Result, Ok, Err, IfErr, refl, sym, ap, subst, ◌∙◌, inr, append-nil, length-append, arith}
use Rattle.std.specs.Io.KnownBytes.{Appends}
use Rattle.std.proofs.KnownBytes.{Appends-nil, Appends-trans}
use Rattle.std.proofs.lemmas.List.Concat.{flat_map-append}
use Rattle.std.proofs.Math.Seq.{take-append_seam}
use Rattle.base_io.specs.Counts.{Rose}
use Rattle.base_io.specs.Prefixes.{AppendsPrefix}
use Rattle.net_traits.specs.Links.{LinkView}
use Rattle.cmd_sync.specs.Courses.{Course, CourseStep, further, is_awaiting, over, takes}
use Rattle.cmd_sync.specs.Talks.{CallStops, DialerView, HasDried, IsCut, IsDry, IsLent, IsRound, IsSevered, IsSpoken, IsStarved, IsStuck, IsUnsent, NothingFailed, RoundStops, TalkStops, joined}
use Rattle.cmd_sync.specs.declared.sync_fault.Stop.{Stop}
use Rattle.cmd_sync.specs.declared.failure.LinkFailure.{LinkFailure}
use Rattle.cmd_sync.specs.declared.failure.LinkFailure.TheVariants.{Dial, Read, Write, End}
use Rattle.cmd_sync.specs.declared.sync_fault.Stop.TheVariants.{Link, NoMemory}

-- ---- known bytes

appends_same : (old mid new : Option (List ℕ)) (bs : List ℕ) → Appends old mid bs → new ≡ mid → Appends old new bs
appends_same old mid new bs out same = subst (λ (bytes : Option (List ℕ)). Appends old bytes bs) (sym same) out

prefix_whole : (old new : Option (List ℕ)) (bs more : List ℕ) → Appends old new bs → AppendsPrefix old new (bs ++ more)
prefix_whole old new bs more out = (length bs, omega (arith, length-append bs more), subst (Appends old new) (sym (take-append_seam bs more)) out)

take_after : (bs more : List ℕ) (n : ℕ) → take (length bs + n) (bs ++ more) ≡ bs ++ take n more
take_after [] more n = ap (λ (m : ℕ). take m more) (zero-add n)
take_after (b ∷ bs) more n =
    let longer : length (b ∷ bs) + n ≡ suc (length bs + n) = omega arith in
    ap (λ (m : ℕ). take m (b ∷ (bs ++ more))) longer ∙ ap (λ (xs : List ℕ). b ∷ xs) (take_after bs more n)

prefix_after : (old mid new : Option (List ℕ)) (bs more : List ℕ) → Appends old mid bs → AppendsPrefix mid new more → AppendsPrefix old new (bs ++ more)
prefix_after old mid new bs more out prefix = (
  length bs + prefix.0,
  omega (arith, length-append bs more, prefix.1),
  subst (Appends old new) (sym (take_after bs more prefix.0)) (Appends-trans old mid new bs (take prefix.0 more) out prefix.2),
)

-- ---- pieces

joined_push : (pieces : List (List ℕ)) (piece : List ℕ) → joined (pieces ++ piece ∷ []) ≡ joined pieces ++ piece
joined_push pieces piece = flat_map-append (λ (p : List ℕ). p) pieces (piece ∷ []) ∙ ap (λ (xs : List ℕ). joined pieces ++ xs) (append-nil piece)

over_push : (start : CourseStep) (pieces : List (List ℕ)) (piece : List ℕ) → over start (pieces ++ piece ∷ []) ≡ further (over start pieces) piece
over_push start [] piece = refl
over_push start (p ∷ pieces) piece = over_push (further start p) pieces piece

-- ---- a piece more

module _ (start : CourseStep) (old mid new : LinkView) (before : Course) where
  read_more : (spoken : IsSpoken start old mid before) (piece : List ℕ) → Appends mid.read new.read piece → Appends old.read new.read (joined (spoken.pieces ++ piece ∷ []))
  read_more spoken piece read = subst (Appends old.read new.read) (sym (joined_push spoken.pieces piece)) (Appends-trans old.read mid.read new.read (joined spoken.pieces) piece spoken.read read)

  put_more : (spoken : IsSpoken start old mid before) (piece : List ℕ) → (over start spoken.pieces).put ++ (takes before piece).put ≡ (over start (spoken.pieces ++ piece ∷ [])).put
  put_more spoken piece =
      ap (λ (c : Course). (over start spoken.pieces).put ++ (takes c piece).put) spoken.course ∙ sym (ap (λ (t : CourseStep). t.put) (over_push start spoken.pieces piece))

  course_more : (spoken : IsSpoken start old mid before) (piece : List ℕ) → (takes before piece).course ≡ (over start (spoken.pieces ++ piece ∷ [])).course
  course_more spoken piece = ap (λ (c : Course). (takes c piece).course) spoken.course ∙ sym (ap (λ (t : CourseStep). t.course) (over_push start spoken.pieces piece))

  pub spoken_more : (after : Course) → IsSpoken start old mid before → IsRound mid new before after → IsSpoken start old new after
  spoken_more after spoken round = record {
    pieces = spoken.pieces ++ round.piece ∷ [];
    read = read_more spoken round.piece round.read;
    written = subst (Appends old.written new.written) (put_more spoken round.piece)
        (Appends-trans old.written mid.written new.written (over start spoken.pieces).put (takes before round.piece).put spoken.written round.written);
    course = round.course ∙ course_more spoken round.piece;
    nothing_failed = record {
      read_faults = round.nothing_failed.read_faults ∙ spoken.nothing_failed.read_faults;
      write_faults = round.nothing_failed.write_faults ∙ spoken.nothing_failed.write_faults;
      ends = round.nothing_failed.ends ∙ spoken.nothing_failed.ends;
    };
  }

  rose_from : (a b c : ℕ) → b ≡ a → Rose b c → Rose a c
  rose_from a b c same rose = subst (λ (n : ℕ). Rose n c) same rose

  dried : (failure : LinkFailure) → IsSpoken start old mid before → HasDried failure mid new → HasDried failure old new
  dried Read spoken rose = rose_from old.read_faults mid.read_faults new.read_faults spoken.nothing_failed.read_faults rose
  dried End spoken rose = rose_from old.ends mid.ends new.ends spoken.nothing_failed.ends rose
  dried Dial spoken never = never
  dried Write spoken never = never

  severed : (failure : LinkFailure) → IsSpoken start old mid before → is_awaiting before.stage ≡ true → IsDry failure mid new → IsSevered failure start old new
  severed failure spoken awaited dry = record {
    pieces = spoken.pieces;
    read = subst (Appends old.read new.read) (append-nil (joined spoken.pieces)) (Appends-trans old.read mid.read new.read (joined spoken.pieces) [] spoken.read dry.read);
    written = appends_same old.written mid.written new.written (over start spoken.pieces).put spoken.written dry.written;
    awaited = ap (λ (c : Course). is_awaiting c.stage) (sym spoken.course) ∙ awaited;
    write_faults = dry.write_faults ∙ spoken.nothing_failed.write_faults;
    cause = dried failure spoken dry.cause;
  }

  unsent : IsSpoken start old mid before → IsCut mid new before → IsUnsent start old new
  unsent spoken cut = record {
    pieces = spoken.pieces ++ cut.piece ∷ [];
    read = read_more spoken cut.piece cut.read;
    written = subst (AppendsPrefix old.written new.written) (put_more spoken cut.piece)
        (prefix_after old.written mid.written new.written (over start spoken.pieces).put (takes before cut.piece).put spoken.written cut.written);
    cause = rose_from old.write_faults mid.write_faults new.write_faults spoken.nothing_failed.write_faults cut.cause;
  }

  starved : IsSpoken start old mid before → IsStuck mid new → IsStarved start old new
  starved spoken stuck = record {
    pieces = spoken.pieces ++ stuck.piece ∷ [];
    read = read_more spoken stuck.piece stuck.read;
    written = subst (AppendsPrefix old.written new.written) (put_more spoken stuck.piece)
        (prefix_whole old.written new.written (over start spoken.pieces).put (takes before stuck.piece).put
        (appends_same old.written mid.written new.written (over start spoken.pieces).put spoken.written stuck.written));
  }

  pub talk_stops : (stop : Stop) → IsSpoken start old mid before → is_awaiting before.stage ≡ true → RoundStops stop mid new before → TalkStops stop start old new
  talk_stops (Link Dial) spoken awaited never = never
  talk_stops (Link Read) spoken awaited dry = severed Read spoken awaited dry
  talk_stops (Link Write) spoken awaited cut = unsent spoken cut
  talk_stops (Link End) spoken awaited dry = severed End spoken awaited dry
  talk_stops NoMemory spoken awaited stuck = starved spoken stuck

-- ---- the first bytes

pub spoken_first : (start : CourseStep) (old new : LinkView) (now : Course) → new.read ≡ old.read → Appends old.written new.written start.put → now ≡ start.course → NothingFailed old new → IsSpoken start old new now
spoken_first start old new now read written course nothing_failed = record {
  pieces = [];
  read = subst (λ (bytes : Option (List ℕ)). Appends old.read bytes []) (sym read) (Appends-nil old.read);
  written = written;
  course = course;
  nothing_failed = nothing_failed;
}

pub unsent_first : (start : CourseStep) (old new : LinkView) → new.read ≡ old.read → AppendsPrefix old.written new.written start.put → Rose old.write_faults new.write_faults → IsUnsent start old new
unsent_first start old new read written cause = record {
  pieces = [];
  read = subst (λ (bytes : Option (List ℕ)). Appends old.read bytes []) (sym read) (Appends-nil old.read);
  written = written;
  cause = cause;
}

-- ---- a read that gave nothing

pub dry_stops : (failure : LinkFailure) (old new : LinkView) (before : Course) → IsDry failure old new → RoundStops (Link failure) old new before
dry_stops Dial old new before dry = dry.cause
dry_stops Read old new before dry = dry
dry_stops Write old new before dry = absurd dry.cause
dry_stops End old new before dry = dry

-- ---- the dialer

-- the talk stopped, and the link was given back
pub call_stops : (r : Result (Unit {0}) Stop) (start : CourseStep) (old new : DialerView) (first last : LinkView) → IsLent old new first last → IfErr r (λ stop. TalkStops stop start first last) → IfErr r (λ stop. CallStops stop start old new)
call_stops (Ok done) start old new first last lent stopped = tt
call_stops (Err (Link Dial)) start old new first last lent never = absurd never
call_stops (Err (Link Read)) start old new first last lent stopped = record { first = first; last = last; lent = lent; stopped = stopped }
call_stops (Err (Link Write)) start old new first last lent stopped = record { first = first; last = last; lent = lent; stopped = stopped }
call_stops (Err (Link End)) start old new first last lent stopped = record { first = first; last = last; lent = lent; stopped = stopped }
call_stops (Err NoMemory) start old new first last lent stopped = inr (record { first = first; last = last; lent = lent; stopped = stopped })

abbrev dialer_of : ℕ → ℕ → ℕ → List LinkView → DialerView
dialer_of faults ends handed given = record { faults = faults; ends = ends; handed = handed; given = given }

-- a dialer of which these are as they were is as it was
pub same_dialer : (faults ends handed : ℕ) (given : List LinkView) (old : DialerView) → faults ≡ old.faults → ends ≡ old.ends → handed ≡ old.handed → given ≡ old.given
    → dialer_of faults ends handed given ≡ old
same_dialer faults ends handed given old a b c d = rw (a, b, c, d) refl
