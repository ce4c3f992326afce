-- Counts that are still to come.
use Rattle.std.proofs.Common.{◌≡◌, ℕ, zero, suc, ◌+◌, ◌-◌, ◌≤◌, Bool, false, List, [], ◌∷◌, ◌++◌, length, drop, refl, ap, ◌∙◌, subst, arith, inl, inr}
use Rattle.std.proofs.lemmas.List.{drop-drop}
use Rattle.sim_2_links.specs.Words.{St, Req, Ack, up_stanzas, UpWord, Hdr, Auth, Resp, ResumeAt, Bind, Enable, Up, Foot, DownWord, Head, Feat, Chal, Succ, Failed, Resumed, Bound, Enabled, Down, Err, End}
use Rattle.sim_2_links.specs.Covers.{NoneAsks, IsOnWay, IsToCome}

pub drop_whole : {B : Type 0} (xs : List B) → drop (length xs) xs ≡ []
drop_whole [] = refl
drop_whole (x ∷ xs) = drop_whole xs

none_later : {A : Type 0} (asks : A → Bool) (m : ℕ) (zs : List A) → NoneAsks asks zs → NoneAsks asks (drop m zs)
none_later asks zero zs n = n
none_later asks (suc m) [] n = n
none_later asks (suc m) (z ∷ zs) n = none_later asks m zs n.1

pub none_behind : {A : Type 0} (asks : A → Bool) (n h : ℕ) (zs : List A) → n ≤ h → NoneAsks asks (drop n zs) → NoneAsks asks (drop h zs)
none_behind asks n h zs low none =
    let sum : n + (h - n) ≡ h = omega arith in
    subst (λ l. NoneAsks asks l) (drop-drop (h - n) n zs ∙ ap (λ (m : ℕ). drop m zs) sum) (none_later asks (h - n) (drop n zs) none)

none_with : {A : Type 0} (asks : A → Bool) (zs : List A) (z : A) → asks z ≡ false → NoneAsks asks zs → NoneAsks asks (zs ++ z ∷ [])
none_with asks [] z e n = (e, tt)
none_with asks (y ∷ zs) z e n = (n.0, none_with asks zs z e n.1)

pub none_push : {A : Type 0} (asks : A → Bool) (n : ℕ) (zs : List A) (z : A) → asks z ≡ false → NoneAsks asks (drop n zs) → NoneAsks asks (drop n (zs ++ z ∷ []))
none_push asks zero zs z e none = none_with asks zs z e none
none_push asks (suc n) [] z e none = none_later asks n [] tt
none_push asks (suc n) (y ∷ zs) z e none = none_push asks n zs z e none

pub on_way_more : {A : Type 0} (n : ℕ) (ws more : List (DownWord A)) → IsOnWay n ws → IsOnWay n (ws ++ more)
on_way_more n [] more o = absurd o
on_way_more n (Down (Ack h) ∷ ws) more (inl e) = inl e
on_way_more n (Down (Ack h) ∷ ws) more (inr o) = inr (on_way_more n ws more o)
on_way_more n (Down (St z) ∷ ws) more o = on_way_more n ws more o
on_way_more n (Down Req ∷ ws) more o = on_way_more n ws more o
on_way_more n (Head ∷ ws) more o = on_way_more n ws more o
on_way_more n (Feat ∷ ws) more o = on_way_more n ws more o
on_way_more n (Chal ∷ ws) more o = on_way_more n ws more o
on_way_more n (Succ ∷ ws) more o = on_way_more n ws more o
on_way_more n (Failed ∷ ws) more o = on_way_more n ws more o
on_way_more n (Resumed p h ∷ ws) more o = on_way_more n ws more o
on_way_more n (Bound m ∷ ws) more o = on_way_more n ws more o
on_way_more n (Enabled m ∷ ws) more o = on_way_more n ws more o
on_way_more n (Err c ∷ ws) more o = on_way_more n ws more o
on_way_more n (End ∷ ws) more o = on_way_more n ws more o

pub on_way_last : {A : Type 0} (n : ℕ) (ws : List (DownWord A)) → IsOnWay n (ws ++ Down (Ack n) ∷ [])
on_way_last n [] = inl refl
on_way_last n (Down (Ack h) ∷ ws) = inr (on_way_last n ws)
on_way_last n (Down (St z) ∷ ws) = on_way_last n ws
on_way_last n (Down Req ∷ ws) = on_way_last n ws
on_way_last n (Head ∷ ws) = on_way_last n ws
on_way_last n (Feat ∷ ws) = on_way_last n ws
on_way_last n (Chal ∷ ws) = on_way_last n ws
on_way_last n (Succ ∷ ws) = on_way_last n ws
on_way_last n (Failed ∷ ws) = on_way_last n ws
on_way_last n (Resumed p h ∷ ws) = on_way_last n ws
on_way_last n (Bound m ∷ ws) = on_way_last n ws
on_way_last n (Enabled m ∷ ws) = on_way_last n ws
on_way_last n (Err c ∷ ws) = on_way_last n ws
on_way_last n (End ∷ ws) = on_way_last n ws

pub to_come_more : {A : Type 0} (n got : ℕ) (ws more : List (UpWord A)) → IsToCome n got ws → IsToCome n got (ws ++ more)
to_come_more n got [] more o = absurd o
to_come_more n got (Up (St z) ∷ ws) more o = to_come_more n (got + 1) ws more o
to_come_more n got (Up Req ∷ ws) more (inl e) = inl e
to_come_more n got (Up Req ∷ ws) more (inr o) = inr (to_come_more n got ws more o)
to_come_more n got (Up (Ack h) ∷ ws) more o = to_come_more n got ws more o
to_come_more n got (Hdr ∷ ws) more o = to_come_more n got ws more o
to_come_more n got (Auth ∷ ws) more o = to_come_more n got ws more o
to_come_more n got (Resp ∷ ws) more o = to_come_more n got ws more o
to_come_more n got (ResumeAt p h ∷ ws) more o = to_come_more n got ws more o
to_come_more n got (Bind ∷ ws) more o = to_come_more n got ws more o
to_come_more n got (Enable ∷ ws) more o = to_come_more n got ws more o
to_come_more n got (Foot ∷ ws) more o = to_come_more n got ws more o

-- a request asks for all that goes up before it
pub to_come_last : {A : Type 0} (n got : ℕ) (ws : List (UpWord A)) → got + length (up_stanzas ws) ≡ n → IsToCome n got (ws ++ Up Req ∷ [])
to_come_last n got [] e = inl (let sum : got ≡ n = omega arith in sum)
to_come_last n got (Up (St z) ∷ ws) e = to_come_last n (got + 1) ws (let sum : got + 1 + length (up_stanzas ws) ≡ n = omega arith in sum)
to_come_last n got (Up Req ∷ ws) e = inr (to_come_last n got ws e)
to_come_last n got (Up (Ack h) ∷ ws) e = to_come_last n got ws e
to_come_last n got (Hdr ∷ ws) e = to_come_last n got ws e
to_come_last n got (Auth ∷ ws) e = to_come_last n got ws e
to_come_last n got (Resp ∷ ws) e = to_come_last n got ws e
to_come_last n got (ResumeAt p h ∷ ws) e = to_come_last n got ws e
to_come_last n got (Bind ∷ ws) e = to_come_last n got ws e
to_come_last n got (Enable ∷ ws) e = to_come_last n got ws e
to_come_last n got (Foot ∷ ws) e = to_come_last n got ws e
