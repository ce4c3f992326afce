-- What a reader has sent, one item longer.
use Rattle.std.proofs.Common.{◌≡◌, ℕ, ◌+◌, true, false, true≢false, ◌&&◌, List, [], ◌∷◌, ◌++◌, length, sym, refl, ap, ◌∙◌, subst, append_assoc, append-nil, length-append, None}
use Rattle.std.specs.Io.KnownBytes.{Appends}
use Rattle.std.proofs.KnownBytes.{Appends-trans, Appends-nil}
use Rattle.net_owner.specs.declared.rule.Known.{Known}
use Rattle.net_owner.specs.declared.item.Item.{Item}
use Rattle.crossbeam_channel.specs.Claims.{Pass, view, IsSeatAt}
use Rattle.crossbeam_channel.specs.Ends.{sends_on}
use Rattle.net_owner.specs.declared.item.What.{What}
use Rattle.net_owner.specs.declared.item.What.TheVariants.{Came, Gave, Ended, Closed, Wanted}
use Rattle.net_owner.specs.declared.reader.ReaderJob.{ReaderJob}
use Rattle.net_owner.specs.Rule.{sender, with_put}
use Rattle.net_traits.specs.Halves.{IncomingView}
use Rattle.net_owner.specs.Feeds.{is_piece, is_last, is_end, are_pieces, bytes_in, bytes_of, has_sent}
use Rattle.net_owner.specs.Readers.{IsReading, HasStopped, HasRead}

module _ {P : Type 0} where
  pub pieces_more : (xs : List (Item P)) (x : Item P) → are_pieces xs ≡ true → is_piece x.what ≡ true → are_pieces (xs ++ x ∷ []) ≡ true
  unfolding are_pieces
  pieces_more [] x all one = rw one refl
  pieces_more (y ∷ ys) x all one = elim (is_piece y.what) as (λ b. (b && are_pieces ys) ≡ true → (b && are_pieces (ys ++ x ∷ [])) ≡ true) [ true ↦ (λ rest. pieces_more ys x rest one) | false ↦ (λ e. e) ] all

  pub bytes_more : (xs : List (Item P)) (x : Item P) → bytes_of (xs ++ x ∷ []) ≡ bytes_of xs ++ bytes_in x.what
  unfolding bytes_of
  bytes_more [] x = append-nil (bytes_in x.what)
  bytes_more (y ∷ ys) x = ap (λ l. bytes_in y.what ++ l) (bytes_more ys x) ∙ sym (append_assoc (bytes_in y.what) (bytes_of ys) (bytes_in x.what))

  -- one more piece was read and sent
  pub reads_on : (k : ℕ) (v w : Known (Item P)) (x : Item P) (start was now : IncomingView) → IsReading k v start was → w ≡ with_put v x → is_piece x.what ≡ true
      → Appends was.read now.read (bytes_in x.what) → (was.read ≡ None → now.read ≡ None) → now.number ≡ was.number → IsReading k w start now
  reads_on k v w x start was now r is one more silent number = subst (λ w. IsReading k w start now) (sym is) (record {
    shape = ap (λ u. with_put u x) r.shape;
    pieces = pieces_more v.put x r.pieces one;
    read = subst (λ l. Appends start.read now.read l) (sym (bytes_more v.put x)) (Appends-trans start.read was.read now.read (bytes_of v.put) (bytes_in x.what) r.read more);
    silent = λ e. silent (r.silent e);
    number = number ∙ r.number;
  })

  pub starts : (k : ℕ) (v : Known (Item P)) (t : IncomingView) → v ≡ sender k → IsReading k v t t × (length (bytes_of v.put) ≡ 0)
  unfolding are_pieces bytes_of
  starts k v t is = subst (λ v. IsReading k v t t × (length (bytes_of v.put) ≡ 0)) (sym is)
      (record { shape = refl; pieces = refl; read = Appends-nil t.read; silent = λ e. e; number = refl }, refl)

  pub counts_on : (v w : Known (Item P)) (x : Item P) (n : ℕ) → w ≡ with_put v x → length (bytes_of v.put) ≡ n → length (bytes_of w.put) ≡ n + length (bytes_in x.what)
  counts_on v w x n is was = ap (λ (u : Known (Item P)). length (bytes_of u.put)) is ∙ ap length (bytes_more v.put x) ∙ length-append (bytes_of v.put) (bytes_in x.what) ∙ ap (λ m. m + length (bytes_in x.what)) was

  -- a last item brings no bytes
  no_bytes : (what : What P) → is_last what ≡ true → bytes_in what ≡ []
  no_bytes (Came a) e = refl
  no_bytes (Gave piece) e = absurd (true≢false (sym e))
  no_bytes Ended e = refl
  no_bytes Closed e = refl
  no_bytes Wanted e = refl

  pub has_read : {R I : Type 0} (told : I → IncomingView) (job : ReaderJob R I P) (half : I) (pass : Pass (Item P) (Known (Item P))) (v : Known (Item P)) (x : Item P)
      → IsSeatAt (sends_on job.to) pass → view pass ≡ with_put v x → v ≡ has_sent job.from v.put → are_pieces v.put ≡ true → is_last x.what ≡ true
      → (told half).number ≡ (told job.half).number
      → (x.what ≡ Ended → Appends (told job.half).read (told half).read (bytes_of v.put))
      → (x.what ≡ Ended → (told job.half).read ≡ None → (told half).read ≡ None)
      → (x.what ≡ Ended → HasStopped (told half) (length (bytes_of v.put)))
      → HasRead told job (record { half = half; pass = pass })
  has_read told job half pass v x seat is shape pieces ends number read silent stopped =
      let put : (view pass).put ≡ v.put ++ x ∷ [] = ap (λ (u : Known (Item P)). u.put) is in
      let bytes : bytes_of (view pass).put ≡ bytes_of v.put = ap bytes_of put ∙ bytes_more v.put x ∙ ap (λ l. bytes_of v.put ++ l) (no_bytes x.what ends) ∙ append-nil (bytes_of v.put) in
      record {
        seat = seat;
        shape = is ∙ ap (λ u. with_put u x) shape ∙ ap (has_sent job.from) (sym put);
        feed = record { body = v.put; last = x; whole = put; pieces = pieces; ends = ends };
        number = number;
        read = λ e. subst (λ l. Appends (told job.half).read (told half).read l) (sym bytes) (read e);
        silent = silent;
        stopped = λ e. subst (λ l. HasStopped (told half) (length l)) (sym bytes) (stopped e);
      }

  pub not_ended : {A : Type 0} (what : What P) → what ≡ Wanted → what ≡ Ended → A
  not_ended what a b = absurd (true≢false (sym (ap is_end b) ∙ ap is_end a))

  pub ended_is : (what : What P) → is_end what ≡ true → what ≡ Ended
  ended_is (Came a) e = absurd (true≢false (sym e))
  ended_is (Gave piece) e = absurd (true≢false (sym e))
  ended_is Ended e = refl
  ended_is Closed e = absurd (true≢false (sym e))
  ended_is Wanted e = absurd (true≢false (sym e))
