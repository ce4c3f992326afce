-- The laws of version 1 hold of a right report of a wire schedule, with two sessions of a device, a message of unknown
-- fate, one that waits, a refused line, a page under way and a held message.
use Rattle.std.proofs.Common.{◌≡◌, ◌≢◌, ℕ, List, [], ◌∷◌, Some, refl, sym, ap, ◌∙◌, codes, arith, inl, inr}
use Rattle.std.proofs.lemmas.Bool.{false≢true}
use Rattle.std.proofs.lemmas.Option.{none-some}
use Rattle.std.specs.Fmt.{digits}
use Rattle.std.specs.List.{flat_map}
use Rattle.std.specs.List.Sorted.{IsNonDecreasing}
use Rattle.std.specs.Prelude.{if◌then◌else◌}
use Rattle.std.specs.Str.{bytes_eq}
use Rattle.mam_archive.proofs.IdDigits.{id_of_same}
use Rattle.mam_archive.specs.Ids.{id_of}
use Rattle.base_lemmas.specs.Hexadecimal.{hex16_of}
use Rattle.cmd_report.proofs.Pairs.{pairs_by_both}
use Rattle.cmd_report.specs.Lawful.{AgreeOnStamp, AreOutcomes, ArePages, AreTiles, IsAcknowledgedRight, IsFresh, IsLogged, IsOfSchedule, IsOnceInOrder, IsPaged, IsTakenRight}
use Rattle.cmd_report.specs.LawfulRuns.{IsInForm, KeepsLaws}
use Rattle.cmd_report.specs.Reports.{AccountView}
use Rattle.cmd_report.specs.declared.report.RefusedWhy.TheVariants.{NotBound}
use Rattle.cmd_schedule.specs.declared.schedule.Version.TheVariants.{One}
use Rattle.test_commands.proofs.EachOf.{not_falling, one_at}
use Rattle.test_commands.proofs.WireReports.{of_p, of_q, p_right, q_right, right, wire_schedule, worlds}

stamps_right : IsNonDecreasing (10 ∷ 20 ∷ 30 ∷ [])
stamps_right = not_falling (10 ∷ 20 ∷ 30 ∷ []) ((omega arith, (omega arith, tt)), ((omega arith, tt), (tt, tt)))

-- the stamp of the message with an origin id
abbrev stamp_of : List ℕ → ℕ
stamp_of origin = if bytes_eq origin (codes "p.1.1") then 10 else (if bytes_eq origin (codes "q.1.1") then 20 else 30)

form : IsInForm One right
form = record {
  is = refl;
  moments = (refl, (refl, (refl, tt)));
  lasts = λ told. (refl, (refl, tt));
  unbroken = λ told. (tt, ((refl, (refl, tt)), tt));
}

of_schedule : IsOfSchedule wire_schedule right
of_schedule = record {
  mode = refl;
  accounts = refl;
  devices = refl;
  counts = (refl, (refl, tt));
  conns = λ direct. absurd (false≢true (sym direct));
}

said_of_p : AreOutcomes (codes "p") wire_schedule.lines of_p (record { line = 11; why = NotBound } ∷ [])
said_of_p = inl (refl, refl, inl (refl, refl, inl (refl, refl, inl (refl, refl, inr (refl, (refl, refl))))))

said_of_q : AreOutcomes (codes "q") wire_schedule.lines of_q []
said_of_q = inl (refl, refl, inl (refl, refl))

law_1 : IsTakenRight wire_schedule right
unfolding digits hex16_of
law_1 = record {
  whole = of_schedule;
  archives = (refl, (refl, tt));
  stamps = (stamps_right, (stamps_right, tt));
  one_stamp = pairs_by_both (λ e. e.stamp ≡ stamp_of e.origin) AgreeOnStamp (λ a b first second from origin. first ∙ ap stamp_of origin ∙ sym second)
      (flat_map (λ (a : AccountView). a.entries) right.accounts) (refl, (refl, (refl, (refl, (refl, (refl, tt))))));
  submitted = (refl, (refl, (refl, tt)));
  exist = (refl, (refl, (refl, tt)));
  numbered = ((refl, (inl (refl, refl), (inr (omega arith, refl), (inl (refl, refl), tt)))), ((refl, tt), tt));
  epochs = (((omega arith, omega arith), ((omega arith, omega arith), ((omega arith, omega arith), ((omega arith, omega arith), tt)))), (((omega arith, omega arith), tt), tt));
  said = (said_of_p, (said_of_q, tt));
}

law_2 : IsOnceInOrder wire_schedule right
law_2 = record {
  whole = of_schedule;
  rise = (((inl (omega arith), tt), (tt, tt)), ((tt, tt), tt));
  gapless = (
    (
      (λ epoch exists later. refl, (λ epoch. absurd (omega arith), (λ epoch. absurd (omega arith), tt))),
      (
        (λ epoch. absurd (omega arith), (λ epoch. absurd (omega arith), tt)),
        ((λ epoch exists later. refl, tt), (tt, tt)),
      ),
    ),
    ((tt, tt), tt),
  );
}

law_3 : IsAcknowledgedRight wire_schedule right
law_3 = record {
  whole = of_schedule;
  taken = (
    (λ acknowledged exists. refl, (λ acknowledged. absurd (cc acknowledged), (λ acknowledged exists. refl, (λ acknowledged. absurd (cc acknowledged), tt)))),
    ((λ acknowledged exists. refl, tt), tt),
  );
  first = (
    (
      (λ epoch later. refl, (λ epoch later. refl, (λ epoch later. refl, tt))),
      (
        (λ epoch. absurd (omega arith), (λ epoch. absurd (omega arith), tt)),
        ((λ epoch later. refl, tt), (tt, tt)),
      ),
    ),
    ((tt, tt), tt),
  );
  settled = (λ yes. absurd (false≢true yes), (λ yes. absurd (false≢true yes), tt));
  direct = λ direct. absurd (false≢true (sym direct));
}

law_4 : IsLogged wire_schedule right
unfolding digits hex16_of
law_4 = record {
  whole = of_schedule;
  prefix = (
    record { short = omega arith; logged = refl; apart = tt; held = tt },
    (record { short = omega arith; logged = refl; apart = (tt, tt); held = (refl, tt) }, tt),
  );
}

-- the pages of q cut its log, the second one asked for after the first one's entry
tiles_right : AreTiles [] q_right.pages q_right.logged
tiles_right = (refl, omega arith, λ none. omega arith, tt, (refl, omega arith, λ none. omega arith, tt, refl))

differ : id_of 1 ≢ id_of 2
differ same = omega (arith, id_of_same 1 2 (omega arith) (omega arith) same)

p_paged : ArePages worlds wire_schedule p_right
p_paged = record {
  tiles = refl;
  distinct = tt;
  fresh = λ k total page here told. absurd (none-some page here);
  last = refl;
  answered = λ direct. absurd (false≢true (sym direct));
}

q_paged : ArePages worlds wire_schedule q_right
q_paged = record {
  tiles = tiles_right;
  distinct = ((differ, tt), (tt, tt));
  -- none of its pages is complete
  fresh = λ k total page here told.
      one_at (λ k page. (total : ℕ) → page.total ≡ Some total → IsFresh worlds q_right k total) 0 q_right.pages
      (λ total told. absurd (none-some total told), (λ total told. absurd (none-some total told), tt))
      k k page here (omega arith) total told;
  last = refl;
  answered = λ direct. absurd (false≢true (sym direct));
}

law_5 : IsPaged worlds wire_schedule right
law_5 = record { whole = of_schedule; pages = (p_paged, (q_paged, tt)) }

lawful : KeepsLaws worlds wire_schedule right
lawful = record { form = form; laws = record { taken = law_1; in_order = law_2; acknowledged = law_3; logged = law_4; paged = law_5 } }
