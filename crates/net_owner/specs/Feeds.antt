-- What a worker has sent, from its first item to its last.
use Rattle.std.specs.Prelude.{◌≡◌, ℕ, Bool, true, false, ◌&&◌, if◌then◌else◌, List, [], ◌∷◌, ◌++◌}
use Rattle.net_owner.specs.Rule.{sender}
use Rattle.net_owner.specs.declared.rule.Known.{Known}
use Rattle.net_owner.specs.declared.item.Item.{Item}
use Rattle.net_owner.specs.declared.item.What.{What}
use Rattle.net_owner.specs.declared.item.What.TheVariants.{Came, Gave, Ended, Closed, Wanted}

module _ {P : Type 0} where
  abbrev pub number : Item P → ℕ
  number x = x.from

  abbrev pub is_piece : What P → Bool
  is_piece (Came _) = false
  is_piece (Gave _) = true
  is_piece Ended = false
  is_piece Closed = false
  is_piece Wanted = false

  -- the last item of a reader
  abbrev pub is_last : What P → Bool
  is_last (Came _) = false
  is_last (Gave _) = false
  is_last Ended = true
  is_last Closed = true
  is_last Wanted = true

  abbrev pub bytes_in : What P → List ℕ
  bytes_in (Came _) = []
  bytes_in (Gave piece) = piece.bytes.items
  bytes_in Ended = []
  bytes_in Closed = []
  bytes_in Wanted = []

  -- pieces, and nothing else
  unfoldable pub are_pieces : List (Item P) → Bool
  are_pieces [] = true
  are_pieces (x ∷ xs) = is_piece x.what && are_pieces xs

  -- the bytes of pieces, joined
  unfoldable pub bytes_of : List (Item P) → List ℕ
  bytes_of [] = []
  bytes_of (x ∷ xs) = bytes_in x.what ++ bytes_of xs

  -- the end of all that a reader read
  abbrev pub is_end : What P → Bool
  is_end (Came _) = false
  is_end (Gave _) = false
  is_end Ended = true
  is_end Closed = false
  is_end Wanted = false

  -- one of them is an end
  unfoldable pub has_end : List (Item P) → Bool
  has_end [] = false
  has_end (x ∷ xs) = if is_end x.what then true else has_end xs

  -- pieces, and then a last item
  pub record IsFeed (put : List (Item P)) : Type 0 where
    pub body : List (Item P)
    pub last : Item P
    pub whole : put ≡ body ++ last ∷ []
    pub pieces : are_pieces body ≡ true
    pub ends : is_last last.what ≡ true

  -- what the pass of sender k knows once it has sent these items
  abbrev pub has_sent : ℕ → List (Item P) → Known (Item P)
  has_sent k put = record (sender k) { put = put }
