-- The same fields, joined from the left and from the right.
use Rattle.std.proofs.Common.{◌≡◌, ℕ, List, [], ◌∷◌, ◌++◌, refl, sym, ◌∙◌, append_assoc}
use Rattle.std.proofs.lemmas.List.{append-nil}

-- the first byte of a joined text
pub cons_append : (b : ℕ) (xs ys : List ℕ) → (b ∷ xs) ++ ys ≡ b ∷ (xs ++ ys)
cons_append b xs ys = refl

-- ---- a word w, fields, and LF

pub join1 : (w a rest : List ℕ) → (w ++ a ++ 10 ∷ []) ++ rest ≡ (w ++ a) ++ 10 ∷ rest
join1 w a rest = simp (append_assoc, cons_append)

pub join2 : (w a b rest : List ℕ) → (w ++ a ++ 32 ∷ b ++ 10 ∷ []) ++ rest ≡ (w ++ (a ++ 32 ∷ b)) ++ 10 ∷ rest
join2 w a b rest = simp (append_assoc, cons_append)

pub join3 : (w a b c rest : List ℕ) → (w ++ a ++ 32 ∷ b ++ 32 ∷ c ++ 10 ∷ []) ++ rest ≡ (w ++ (a ++ 32 ∷ (b ++ 32 ∷ c))) ++ 10 ∷ rest
join3 w a b c rest = simp (append_assoc, cons_append)

pub join5 : (w a b c d e rest : List ℕ) → (w ++ a ++ 32 ∷ b ++ 32 ∷ c ++ 32 ∷ d ++ 32 ∷ e ++ 10 ∷ []) ++ rest ≡ (w ++ (a ++ 32 ∷ (b ++ 32 ∷ (c ++ 32 ∷ (d ++ 32 ∷ e))))) ++ 10 ∷ rest
join5 w a b c d e rest = simp (append_assoc, cons_append)

pub join6 : (a b c d e f rest : List ℕ) → (a ++ 32 ∷ b ++ 32 ∷ c ++ 32 ∷ d ++ 32 ∷ e ++ 32 ∷ f ++ 10 ∷ []) ++ rest ≡ (a ++ 32 ∷ (b ++ 32 ∷ (c ++ 32 ∷ (d ++ 32 ∷ (e ++ 32 ∷ f))))) ++ 10 ∷ rest
join6 a b c d e f rest = simp (append_assoc, cons_append)

pub join7 : (w a b c d e f g rest : List ℕ) →
    (w ++ a ++ 32 ∷ b ++ 32 ∷ c ++ 32 ∷ d ++ 32 ∷ e ++ 32 ∷ f ++ 32 ∷ g ++ 10 ∷ []) ++ rest ≡ (w ++ (a ++ 32 ∷ (b ++ 32 ∷ (c ++ 32 ∷ (d ++ 32 ∷ (e ++ 32 ∷ (f ++ 32 ∷ g))))))) ++ 10 ∷ rest
join7 w a b c d e f g rest = simp (append_assoc, cons_append)

-- a take's, the last of which may be absent
pub join_take : (w a b c d m rest : List ℕ) → (w ++ a ++ 32 ∷ b ++ 32 ∷ c ++ 32 ∷ d ++ m ++ 10 ∷ []) ++ rest ≡ w ++ (a ++ 32 ∷ (b ++ 32 ∷ (c ++ 32 ∷ ((d ++ m) ++ 10 ∷ rest))))
join_take w a b c d m rest = simp (append_assoc, cons_append)

pub join_take_right : (w a b c d rest : List ℕ) → w ++ (a ++ 32 ∷ (b ++ 32 ∷ (c ++ 32 ∷ (d ++ 10 ∷ rest)))) ≡ (w ++ (a ++ 32 ∷ (b ++ 32 ∷ (c ++ 32 ∷ d)))) ++ 10 ∷ rest
join_take_right w a b c d rest = simp (append_assoc, cons_append)

-- an account's own line, and a device's
pub join_account : (w a b c rest : List ℕ) → (w ++ a ++ 32 ∷ b ++ c) ++ 10 ∷ rest ≡ (w ++ (a ++ 32 ∷ (b ++ c))) ++ 10 ∷ rest
join_account w a b c rest = simp (append_assoc, cons_append)

pub join4 : (w a b c d rest : List ℕ) → (w ++ a ++ 32 ∷ b ++ 32 ∷ c ++ 32 ∷ d) ++ 10 ∷ rest ≡ (w ++ (a ++ 32 ∷ (b ++ 32 ∷ (c ++ 32 ∷ d)))) ++ 10 ∷ rest
join4 w a b c d rest = simp (append_assoc, cons_append)

-- ---- an own line, and the lines below it

pub below_account : (w a b c es rest : List ℕ) → (w ++ a ++ 32 ∷ b ++ c ++ 10 ∷ es) ++ rest ≡ (w ++ a ++ 32 ∷ b ++ c) ++ 10 ∷ (es ++ rest)
below_account w a b c es rest = simp (append_assoc, cons_append)

pub below_device : (h p q r s t u rest : List ℕ) → (h ++ 10 ∷ p ++ q ++ r ++ s ++ t ++ u) ++ rest ≡ h ++ 10 ∷ (p ++ (q ++ (r ++ (s ++ (t ++ (u ++ rest))))))
below_device h p q r s t u rest = simp (append_assoc, cons_append)

-- ---- with nothing behind the LF

pub alone2 : (w a b : List ℕ) → (w ++ (a ++ 32 ∷ b)) ++ 10 ∷ [] ≡ w ++ a ++ 32 ∷ b ++ 10 ∷ []
alone2 w a b = sym (join2 w a b []) ∙ append-nil (w ++ a ++ 32 ∷ b ++ 10 ∷ [])

pub alone3 : (w a b c : List ℕ) → (w ++ (a ++ 32 ∷ (b ++ 32 ∷ c))) ++ 10 ∷ [] ≡ w ++ a ++ 32 ∷ b ++ 32 ∷ c ++ 10 ∷ []
alone3 w a b c = sym (join3 w a b c []) ∙ append-nil (w ++ a ++ 32 ∷ b ++ 32 ∷ c ++ 10 ∷ [])

pub alone5 : (w a b c d e : List ℕ) → (w ++ (a ++ 32 ∷ (b ++ 32 ∷ (c ++ 32 ∷ (d ++ 32 ∷ e))))) ++ 10 ∷ [] ≡ w ++ a ++ 32 ∷ b ++ 32 ∷ c ++ 32 ∷ d ++ 32 ∷ e ++ 10 ∷ []
alone5 w a b c d e = sym (join5 w a b c d e []) ∙ append-nil (w ++ a ++ 32 ∷ b ++ 32 ∷ c ++ 32 ∷ d ++ 32 ∷ e ++ 10 ∷ [])

pub alone6 : (w a b c d e f : List ℕ) → (w ++ 32 ∷ (a ++ 32 ∷ (b ++ 32 ∷ (c ++ 32 ∷ (d ++ 32 ∷ (e ++ 32 ∷ f)))))) ++ 10 ∷ [] ≡ w ++ 32 ∷ (a ++ 32 ∷ b ++ 32 ∷ c ++ 32 ∷ d ++ 32 ∷ e ++ 32 ∷ f ++ 10 ∷ [])
alone6 w a b c d e f = simp (append_assoc, cons_append)

pub alone7 : (w a b c d e f g : List ℕ) →
    (w ++ (a ++ 32 ∷ (b ++ 32 ∷ (c ++ 32 ∷ (d ++ 32 ∷ (e ++ 32 ∷ (f ++ 32 ∷ g))))))) ++ 10 ∷ [] ≡ w ++ a ++ 32 ∷ b ++ 32 ∷ c ++ 32 ∷ d ++ 32 ∷ e ++ 32 ∷ f ++ 32 ∷ g ++ 10 ∷ []
alone7 w a b c d e f g = sym (join7 w a b c d e f g []) ∙ append-nil (w ++ a ++ 32 ∷ b ++ 32 ∷ c ++ 32 ∷ d ++ 32 ∷ e ++ 32 ∷ f ++ 32 ∷ g ++ 10 ∷ [])

pub alone_take : (w a b c d m : List ℕ) → (w ++ (a ++ 32 ∷ (b ++ 32 ∷ (c ++ 32 ∷ (d ++ m))))) ++ 10 ∷ [] ≡ w ++ a ++ 32 ∷ b ++ 32 ∷ c ++ 32 ∷ d ++ m ++ 10 ∷ []
alone_take w a b c d m = simp (append_assoc, cons_append)

pub alone_account : (w a b c : List ℕ) → (w ++ (a ++ 32 ∷ (b ++ c))) ++ 10 ∷ [] ≡ w ++ a ++ 32 ∷ b ++ c ++ 10 ∷ []
alone_account w a b c = simp (append_assoc, cons_append)

pub alone_device : (w a b c d : List ℕ) → (w ++ (a ++ 32 ∷ (b ++ 32 ∷ (c ++ 32 ∷ d)))) ++ 10 ∷ [] ≡ w ++ a ++ 32 ∷ b ++ 32 ∷ c ++ 32 ∷ d ++ 10 ∷ [] ++ [] ++ [] ++ [] ++ [] ++ []
alone_device w a b c d = simp (append_assoc, cons_append, append-nil)

-- ---- one line more below a device's own line, and below an account's

pub more_said : (h p x : List ℕ) → h ++ 10 ∷ (p ++ x) ++ [] ++ [] ++ [] ++ [] ++ [] ≡ (h ++ 10 ∷ p ++ [] ++ [] ++ [] ++ [] ++ []) ++ x
more_said h p x = simp (append_assoc, cons_append, append-nil)

pub more_refused : (h p q x : List ℕ) → h ++ 10 ∷ p ++ (q ++ x) ++ [] ++ [] ++ [] ++ [] ≡ (h ++ 10 ∷ p ++ q ++ [] ++ [] ++ [] ++ []) ++ x
more_refused h p q x = simp (append_assoc, cons_append, append-nil)

pub more_page : (h p q r x : List ℕ) → h ++ 10 ∷ p ++ q ++ (r ++ x) ++ [] ++ [] ++ [] ≡ (h ++ 10 ∷ p ++ q ++ r ++ [] ++ [] ++ []) ++ x
more_page h p q r x = simp (append_assoc, cons_append, append-nil)

pub more_underway : (h p q r s x : List ℕ) → h ++ 10 ∷ p ++ q ++ r ++ (s ++ x) ++ [] ++ [] ≡ (h ++ 10 ∷ p ++ q ++ r ++ s ++ [] ++ []) ++ x
more_underway h p q r s x = simp (append_assoc, cons_append, append-nil)

pub more_logged : (h p q r s t x : List ℕ) → h ++ 10 ∷ p ++ q ++ r ++ s ++ (t ++ x) ++ [] ≡ (h ++ 10 ∷ p ++ q ++ r ++ s ++ t ++ []) ++ x
more_logged h p q r s t x = simp (append_assoc, cons_append, append-nil)

pub more_held : (h p q r s t u x : List ℕ) → h ++ 10 ∷ p ++ q ++ r ++ s ++ t ++ (u ++ x) ≡ (h ++ 10 ∷ p ++ q ++ r ++ s ++ t ++ u) ++ x
more_held h p q r s t u x = simp (append_assoc, cons_append)

pub more_entries : (w a b c es x : List ℕ) → w ++ a ++ 32 ∷ b ++ c ++ 10 ∷ (es ++ x) ≡ (w ++ a ++ 32 ∷ b ++ c ++ 10 ∷ es) ++ x
more_entries w a b c es x = simp (append_assoc, cons_append)

-- ---- one line more of the whole

pub more_entry : (h t a b e : List ℕ) → (h ++ 10 ∷ t ++ (a ++ (b ++ e)) ++ [] ++ []) ++ [] ≡ ((h ++ 10 ∷ t ++ (a ++ b) ++ [] ++ []) ++ []) ++ e
more_entry h t a b e = simp (append_assoc, cons_append, append-nil)

pub more_part : (h t a c d b k x : List ℕ) → (h ++ 10 ∷ t ++ a ++ c ++ (d ++ (b ++ (k ++ x)))) ++ [] ≡ ((h ++ 10 ∷ t ++ a ++ c ++ (d ++ b)) ++ k) ++ x
more_part h t a c d b k x = simp (append_assoc, cons_append, append-nil)
