-- A client with each thing that is put turned into another: an item into its bytes, say.
use Rattle.std.specs.Prelude.{◌≡◌, ℕ, List, [], map, flat_map}
use Rattle.std.specs.Option.{option_map}
use Rattle.cl_core.specs.Feeds.{Fed}
use Rattle.cl_handlers.specs.Clients.{ClientStep, ClientView}
use Rattle.cl_handlers.specs.Speech as speech
use Rattle.cl_handlers.specs.Speech.{Note, Speech, in_bytes, in_items}
use Rattle.sm_outbox.specs.Sessions.{SessionView}
use Rattle.sm_outbox.specs.Waiting.{Waiting}
use Rattle.xml_writer.specs.Items.{ItemOut, written_item}

-- ---- what waits, and what is noted down

abbrev pub note_rendered : {A B : Type 0} → (A → B) → Note A → Note B
note_rendered f (speech.Epoch epoch) = speech.Epoch epoch
note_rendered f speech.Counted = speech.Counted
note_rendered f (speech.Handled e) = speech.Handled e
note_rendered f (speech.Put stanza) = speech.Put (f stanza)
note_rendered f (speech.Stated h) = speech.Stated h
note_rendered f (speech.Acknowledged count) = speech.Acknowledged count
note_rendered f speech.Ended = speech.Ended

abbrev pub waiting_rendered : {A B : Type 0} → (A → B) → Waiting A → Waiting B
waiting_rendered f w = record { acked = w.acked; handled = w.handled; queue = map f w.queue; submissions = w.submissions }

abbrev pub session_rendered : {A B : Type 0} → (A → B) → SessionView A → SessionView B
session_rendered f s = record { previd = s.previd; waiting = waiting_rendered f s.waiting }

-- ---- a client, and what it puts out

abbrev pub client_rendered : {A B : Type 0} → (A → B) → ClientView A → ClientView B
client_rendered f c = record {
  account = c.account;
  log = c.log;
  said = c.said;
  epoch = c.epoch;
  n = c.n;
  pages = c.pages;
  session = option_map (session_rendered f) c.session;
  phase = c.phase;
}

-- each thing in the stream becomes some others
abbrev pub turn_rendered : {A B X Y : Type 0} → (A → B) → (X → List Y) → (List (Note A) → List (Note B)) → ClientStep A X → ClientStep B Y
turn_rendered f g k t = record { client = client_rendered f t.client; out = record { put = flat_map g t.out.put; events = t.out.events; notes = k t.out.notes } }

abbrev pub fed_rendered : {A B X Y : Type 0} → (A → B) → (X → List Y) → (List (Note A) → List (Note B)) → Fed A X → Fed B Y
fed_rendered f g k fed = record { framer = fed.framer; turn = turn_rendered f g k fed.turn }

-- ---- two speeches

-- the one says, spreads and notes down what the other does, turned so
pub record IsRendered {A B X Y : Type 0} (p : Speech A X) (q : Speech B Y) (f : A → B) (g : X → List Y) (k : List (Note A) → List (Note B)) : Type 0 where
  pub say : (item : ItemOut) → q.say item ≡ f (p.say item)
  pub spread : (stanza : A) → q.spread (f stanza) ≡ flat_map g (p.spread stanza)
  pub note : (notes : List (Note A)) (one : Note A) → q.note (k notes) (note_rendered f one) ≡ k (p.note notes one)

-- ---- items as their bytes, and nothing noted down

abbrev pub written : ClientStep ItemOut ItemOut → ClientStep (List ℕ) ℕ
written t = turn_rendered written_item written_item (λ _. []) t

abbrev pub written_fed : Fed ItemOut ItemOut → Fed (List ℕ) ℕ
written_fed fed = fed_rendered written_item written_item (λ _. []) fed
