-- What a server answers to requests, and to messages and presences that it can't pass on (RFC 6120, sections 7 and 8).
use Rattle.std.proofs.Common.{◌≡◌, ℕ, ◌+◌, ◌<◌, ◌≤◌, ◌^◌, true, List, [], ◌∷◌, ◌++◌, Option, Some, None, IfSome, codes, refl, ap, arith, subst, sym}
use Rattle.std.specs.Fmt.{decimal}
use Rattle.base_lemmas.specs.Hexadecimal.{hex16_of}
use Rattle.im_extensions.proofs.BindLaws.{bind_result_stays}
use Rattle.im_extensions.proofs.StreamManagementLaws.{enabled_stays}
use Rattle.im_extensions.specs.Bind.{bind_result_elem}
use Rattle.im_extensions.specs.StreamManagement.{enabled_elem}
use Rattle.im_login.proofs.DiscoveryLaws.{items_stay, told_stays}
use Rattle.im_login.specs.Discovery.{Told, account, disco_info_elem, disco_items_elem, feature_elem, feature_elems, identity_elem, server, server_features}
use Rattle.im_payload.specs.Bare.{bare}
use Rattle.im_payload.specs.Names.{archive, binding, carbons, disco_info, disco_items, management, pings, roster, stanza_ids}
use Rattle.law_limits.proofs.PutParts.{attributes_joined, bounded_bare, bounded_element, bounded_more, child_bounded, no_attributes, no_nodes_bounded, nodes_more, one_attribute, only_child, other_space, reads, said_bounded, space, stanza_attributes, where_given, word}
use Rattle.law_limits.proofs.PutReplies.{bounded_around, known_word, two_attributes, with_none}
use Rattle.law_limits.specs.Bounded.{AreBounded, ClientReads, IsBounded, IsWord}
use Rattle.im_replies.specs.Requests.{EnvelopeView}
use Rattle.law_limits.proofs.Characters.{said_word}
use Rattle.law_limits.proofs.Numerals.{said_decimal, said_hex}
use Rattle.law_limits.specs.Texts.{Said}
use Rattle.im_stanza.proofs.WrittenAttrs.{attrs_stay}
use Rattle.im_stanza.specs.Answering.{bounce_elem, iq_error_elem, presence_bounce_elem}
use Rattle.im_stanza.specs.Conditions.{IsKnown, condition_name}
use Rattle.im_stanza.specs.Errors.{error_elem, error_type}
use Rattle.im_stanza.specs.Kinds.{iq_type, message_type, presence_type}
use Rattle.im_stanza.specs.Names.{client_ns, stanza_errors_ns}
use Rattle.im_stanza.specs.Written.{attr_where, attrs_written, iq_elem, unless_empty}
use Rattle.im_stanza.specs.declared.errors.ErrorKind.{ErrorKind}
use Rattle.im_stanza.specs.declared.errors.ErrorKind.TheVariants as error
use Rattle.im_stanza.specs.declared.errors.StanzaError.{StanzaError}
use Rattle.im_stanza.specs.declared.kinds.IqKind.{IqKind}
use Rattle.im_stanza.specs.declared.kinds.IqKind.TheVariants as iq
use Rattle.im_stanza.specs.declared.kinds.MessageKind.{MessageKind}
use Rattle.im_stanza.specs.declared.kinds.MessageKind.TheVariants as message
use Rattle.im_stanza.specs.declared.kinds.PresenceKind.TheVariants as presence
use Rattle.xml_trees.proofs.TidyLaws.{tidied_IsTree}
use Rattle.xml_trees.specs.Attributes.{attribute}
use Rattle.xml_trees.specs.Tidied.{text_node, tidied_nodes}
use Rattle.xml_trees.specs.Trees.{IsTree, Nodes, element, no_nodes, child}
use Rattle.xml_writer.specs.Canon.{default_inside}
pub use Rattle.im_forwarding.proofs.PartSteps.{client_inside as inside_client}

pub unless_said : (m : ℕ) (t : List ℕ) → Said m t → IfSome (unless_empty t) (Said m)
unless_said m [] h = tt
unless_said m (c ∷ cs) h = h

-- ---- kinds

pub error_kind_said : (k : ErrorKind) → Said 60 (error_type k)
error_kind_said error.Auth = said_word 60 (codes "auth") refl refl
error_kind_said error.Cancel = said_word 60 (codes "cancel") refl refl
error_kind_said error.Continue = said_word 60 (codes "continue") refl refl
error_kind_said error.Modify = said_word 60 (codes "modify") refl refl
error_kind_said error.Wait = said_word 60 (codes "wait") refl refl

pub message_kind_said : (k : MessageKind) → Said 60 (message_type k)
message_kind_said message.Chat = said_word 60 (codes "chat") refl refl
message_kind_said message.Normal = said_word 60 (codes "normal") refl refl
message_kind_said message.Headline = said_word 60 (codes "headline") refl refl
message_kind_said message.Groupchat = said_word 60 (codes "groupchat") refl refl
message_kind_said message.Error = said_word 60 (codes "error") refl refl

pub iq_kind_said : (k : IqKind) → Said 60 (iq_type k)
iq_kind_said iq.Get = said_word 60 (codes "get") refl refl
iq_kind_said iq.Set = said_word 60 (codes "set") refl refl
iq_kind_said iq.Result = said_word 60 (codes "result") refl refl
iq_kind_said iq.Error = said_word 60 (codes "error") refl refl

-- ---- stanzas

-- a stanza whose attributes take these bytes, with these nodes inside
pub stanza_bounded : (default name : List ℕ) (from id to kind lang : Option (List ℕ)) (kids : Nodes) (f i t l levels n : ℕ) → IsWord name → IfSome from (Said f) → IfSome id (Said i) → IfSome to (Said t) → IfSome kind (Said 60)
    → IfSome lang (Said l) → AreBounded client_ns levels n kids → IsBounded default (levels + 1) (f + i + t + l + n + 700) (element client_ns name (attrs_written from id to kind lang) kids)
stanza_bounded default name from id to kind lang kids f i t l levels n w a b c d e inside =
    let attributes = stanza_attributes f i t 60 l from id to kind lang a b c d e in
    bounded_more default (levels + 1) (levels + 1) (f + i + t + 60 + l + 240 + n + 400) (f + i + t + l + n + 700) (element client_ns name (attrs_written from id to kind lang) kids)
    (bounded_element default client_ns name (attrs_written from id to kind lang) kids 5 (f + i + t + 60 + l + 240) levels n (space client_ns refl) w attributes (omega arith) (subst (λ d. AreBounded d levels n kids) (sym (inside_client default)) inside))
    (omega arith) (omega arith)

pub error_bounded : (default : List ℕ) (e : StanzaError) → IsKnown e.condition → IsBounded default 2 1000 (error_elem e)
error_bounded default e known =
    let inner = default_inside default client_ns in
    let condition = element stanza_errors_ns (condition_name e.condition) [] no_nodes in
    let inside = only_child inner 1 400 condition (bounded_bare inner stanza_errors_ns (condition_name e.condition) (space stanza_errors_ns refl) (known_word e.condition known)) in
    bounded_more default 2 2 (108 + 400 + 400) 1000 (error_elem e)
    (bounded_element default client_ns (codes "error") (attribute [] (codes "type") (error_type e.kind) ∷ []) (child condition no_nodes) 1 108 1 400 (space client_ns refl) (word (codes "error") refl)
    (one_attribute 60 (codes "type") (error_type e.kind) (word (codes "type") refl) (error_kind_said e.kind)) (omega arith) inside)
    (omega arith) (omega arith)

pub bounce_read : (f i : ℕ) (from id : List ℕ) (e : StanzaError) → Said f from → Said i id → IsKnown e.condition → f + i ≤ 4000000 → ClientReads (bounce_elem from id e)
bounce_read f i from id e a b known short =
    reads (bounce_elem from id e) 3 (f + i + 0 + 0 + 1000 + 700)
    (subst IsTree (λ j. element client_ns (codes "message") (attrs_stay (Some from) (unless_empty id) None (Some (message_type message.Error)) None j) (child (error_elem e) no_nodes)) (tidied_IsTree (bounce_elem from id e)))
    (stanza_bounded client_ns (codes "message") (Some from) (unless_empty id) None (Some (message_type message.Error)) None (child (error_elem e) no_nodes) f i 0 0 2 1000 (word (codes "message") refl) a (unless_said i id b) tt
    (message_kind_said message.Error) tt (only_child client_ns 2 1000 (error_elem e) (error_bounded client_ns e known)))
    (other_space client_ns (codes "message") refl) (omega arith) (omega (arith, short))

pub presence_bounce_read : (f i : ℕ) (from id : List ℕ) (e : StanzaError) → Said f from → Said i id → IsKnown e.condition → f + i ≤ 4000000 → ClientReads (presence_bounce_elem from id e)
presence_bounce_read f i from id e a b known short =
    reads (presence_bounce_elem from id e) 3 (f + i + 0 + 0 + 1000 + 700)
    (subst IsTree (λ j. element client_ns (codes "presence") (attrs_stay (Some from) (unless_empty id) None (presence_type presence.Error) None j) (child (error_elem e) no_nodes)) (tidied_IsTree (presence_bounce_elem from id e)))
    (stanza_bounded client_ns (codes "presence") (Some from) (unless_empty id) None (presence_type presence.Error) None (child (error_elem e) no_nodes) f i 0 0 2 1000 (word (codes "presence") refl) a (unless_said i id b) tt
    (said_word 60 (codes "error") refl refl) tt (only_child client_ns 2 1000 (error_elem e) (error_bounded client_ns e known)))
    (other_space client_ns (codes "presence") refl) (omega arith) (omega (arith, short))

pub iq_error_read : (f i t : ℕ) (from to : Option (List ℕ)) (id : List ℕ) (e : StanzaError) → IfSome from (Said f) → Said i id → IfSome to (Said t) → IsKnown e.condition → f + i + t ≤ 4000000
    → ClientReads (iq_error_elem from to id e)
iq_error_read f i t from to id e a b c known short =
    reads (iq_error_elem from to id e) 3 (f + i + t + 0 + 1000 + 700)
    (subst IsTree (λ j. element client_ns (codes "iq") (attrs_stay from (Some id) to (Some (iq_type iq.Error)) None j) (child (error_elem e) no_nodes)) (tidied_IsTree (iq_error_elem from to id e)))
    (stanza_bounded client_ns (codes "iq") from (Some id) to (Some (iq_type iq.Error)) None (child (error_elem e) no_nodes) f i t 0 2 1000 (word (codes "iq") refl) a b c (iq_kind_said iq.Error) tt
    (only_child client_ns 2 1000 (error_elem e) (error_bounded client_ns e known)))
    (other_space client_ns (codes "iq") refl) (omega arith) (omega (arith, short))

pub result_read : (f i t levels n : ℕ) (a : EnvelopeView) (payload : Nodes) → IfSome a.from (Said f) → Said i a.id → IfSome a.to (Said t) → tidied_nodes payload ≡ payload → AreBounded client_ns levels n payload
    → levels ≤ 60 → f + i + t + n ≤ 4000000 → ClientReads (iq_elem (record { from = a.from; to = a.to; id = a.id; kind = iq.Result; payload = payload }))
result_read f i t levels n a payload b c d stays inside deep short =
    let e = iq_elem (record { from = a.from; to = a.to; id = a.id; kind = iq.Result; payload = payload }) in
    reads e (levels + 1) (f + i + t + 0 + n + 700) (subst IsTree (λ j. element client_ns (codes "iq") (attrs_stay a.from (Some a.id) a.to (Some (iq_type iq.Result)) None j) (stays j)) (tidied_IsTree e))
    (stanza_bounded client_ns (codes "iq") a.from (Some a.id) a.to (Some (iq_type iq.Result)) None payload f i t 0 levels n (word (codes "iq") refl) b c d (iq_kind_said iq.Result) tt inside) (other_space client_ns (codes "iq") refl) (omega (arith, deep))
    (omega (arith, short))

-- ---- payloads

pub nothing_bounded : AreBounded client_ns 0 0 no_nodes
nothing_bounded = no_nodes_bounded client_ns

pub roster_bounded : AreBounded client_ns 1 400 (child (bare roster (codes "query")) no_nodes)
roster_bounded = only_child client_ns 1 400 (bare roster (codes "query")) (bounded_bare client_ns roster (codes "query") (space roster refl) (word (codes "query") refl))

feature_bounded : (default namespace : List ℕ) (m : ℕ) → Said m namespace → IsBounded default 1 (m + 460) (feature_elem namespace)
feature_bounded default namespace m h =
    bounded_more default 1 1 (m + 48 + 400) (m + 460) (feature_elem namespace)
    (with_none default disco_info (codes "feature") (attribute [] (codes "var") namespace ∷ []) 1 (m + 48) (space disco_info refl) (word (codes "feature") refl) (one_attribute m (codes "var") namespace (word (codes "var") refl) h) (omega arith))
    (omega arith) (omega arith)

features_bounded : (default : List ℕ) → AreBounded default 1 3800 (feature_elems server_features)
features_bounded default =
    let none = nodes_more default 0 1 0 0 no_nodes (no_nodes_bounded default) (omega arith) (omega arith) in
    let one = child_bounded default 1 600 0 (feature_elem stanza_ids) no_nodes (feature_bounded default stanza_ids 140 (said_word 140 stanza_ids refl refl)) none in
    let two = child_bounded default 1 600 600 (feature_elem pings) (feature_elems (stanza_ids ∷ [])) (feature_bounded default pings 140 (said_word 140 pings refl refl)) one in
    let three = child_bounded default 1 600 1200 (feature_elem archive) (feature_elems (pings ∷ stanza_ids ∷ [])) (feature_bounded default archive 140 (said_word 140 archive refl refl)) two in
    let four = child_bounded default 1 600 1800 (feature_elem carbons) (feature_elems (archive ∷ pings ∷ stanza_ids ∷ [])) (feature_bounded default carbons 140 (said_word 140 carbons refl refl)) three in
    let five = child_bounded default 1 700 2400 (feature_elem disco_items) (feature_elems (carbons ∷ archive ∷ pings ∷ stanza_ids ∷ [])) (feature_bounded default disco_items 240 (said_word 240 disco_items refl refl)) four in
    child_bounded default 1 700 3100 (feature_elem disco_info) (feature_elems (disco_items ∷ carbons ∷ archive ∷ pings ∷ stanza_ids ∷ [])) (feature_bounded default disco_info 240 (said_word 240 disco_info refl refl)) five

info_bounded : (told : Told) → Said 60 told.0 → Said 60 told.1 → AreBounded client_ns 2 5000 (child (disco_info_elem (told ∷ []) server_features) no_nodes)
info_bounded told h k =
    let inner = default_inside client_ns disco_info in
    let identity =
    with_none inner disco_info (codes "identity") (attribute [] (codes "category") told.0 ∷ attribute [] (codes "type") told.1 ∷ []) 2 216 (space disco_info refl) (word (codes "identity") refl)
    (two_attributes 60 60 (codes "category") told.0 (codes "type") told.1 (word (codes "category") refl) h (word (codes "type") refl) k) (omega arith) in
    let kids = child (identity_elem told) (feature_elems server_features) in
    let inside = child_bounded inner 1 616 3800 (identity_elem told) (feature_elems server_features) identity (features_bounded inner) in
    let whole = bounded_element client_ns disco_info (codes "query") [] kids 0 0 1 (616 + 3800) (space disco_info refl) (word (codes "query") refl) no_attributes (omega arith) inside in
    only_child client_ns 2 5000 (disco_info_elem (told ∷ []) server_features) (bounded_more client_ns 2 2 (0 + (616 + 3800) + 400) 5000 (disco_info_elem (told ∷ []) server_features) whole (omega arith) (omega arith))

pub server_info_bounded : AreBounded client_ns 2 5000 (child (disco_info_elem (server ∷ []) server_features) no_nodes)
server_info_bounded = info_bounded server (said_word 60 (codes "server") refl refl) (said_word 60 (codes "im") refl refl)

pub account_info_bounded : AreBounded client_ns 2 5000 (child (disco_info_elem (account ∷ []) server_features) no_nodes)
account_info_bounded = info_bounded account (said_word 60 (codes "account") refl refl) (said_word 60 (codes "registered") refl refl)

pub items_bounded : (m : ℕ) (node : List ℕ) → Said m node → AreBounded client_ns 1 (m + 448) (child (disco_items_elem node) no_nodes)
items_bounded m node h =
    only_child client_ns 1 (m + 448) (disco_items_elem node)
    (bounded_more client_ns 1 1 (m + 48 + 400) (m + 448) (disco_items_elem node)
    (with_none client_ns disco_items (codes "query") (attr_where [] (codes "node") (unless_empty node)) 1 (m + 48) (space disco_items refl) (word (codes "query") refl)
    (where_given m (codes "node") (unless_empty node) (word (codes "node") refl) (unless_said m node h)) (omega arith))
    (omega arith) (omega arith))

pub bound_bounded : (m : ℕ) (jid : List ℕ) → Said m jid → AreBounded client_ns 2 (m + 800) (child (bind_result_elem (record { jid = jid })) no_nodes)
bound_bounded m jid h =
    let inner = default_inside client_ns binding in
    let told = bounded_element inner binding (codes "jid") [] (text_node jid) 0 0 0 m (space binding refl) (word (codes "jid") refl) no_attributes (omega arith) (said_bounded (default_inside inner binding) jid m h) in
    only_child client_ns 2 (m + 800) (bind_result_elem (record { jid = jid }))
    (bounded_more client_ns 2 2 (0 + m + 400 + 400) (m + 800) (bind_result_elem (record { jid = jid }))
    (bounded_around client_ns binding (codes "bind") 1 (0 + m + 400) (element binding (codes "jid") [] (text_node jid)) (space binding refl) (word (codes "bind") refl) told) (omega arith) (omega arith))

-- what tidying leaves
pub info_stays : (told : Told) → tidied_nodes (child (disco_info_elem (told ∷ []) server_features) no_nodes) ≡ child (disco_info_elem (told ∷ []) server_features) no_nodes
info_stays told = ap (λ e. child e no_nodes) (told_stays (told ∷ []) server_features)

pub items_stays : (node : List ℕ) → tidied_nodes (child (disco_items_elem node) no_nodes) ≡ child (disco_items_elem node) no_nodes
items_stays node = ap (λ e. child e no_nodes) (items_stay node)

pub bound_stays : (jid : List ℕ) → tidied_nodes (child (bind_result_elem (record { jid = jid })) no_nodes) ≡ child (bind_result_elem (record { jid = jid })) no_nodes
bound_stays jid = ap (λ e. child e no_nodes) (bind_result_stays (record { jid = jid }))

-- ---- a stream that can be resumed (XEP-0198, section 3)

pub resumable_read : (n seconds : ℕ) → seconds < 2 ^ 64 → ClientReads (enabled_elem (record { id = hex16_of n; resume = true; max = Some seconds }))
resumable_read n seconds small =
    let given = attr_where [] (codes "id") (unless_empty (hex16_of n)) in
    let most = attr_where [] (codes "max") (Some (decimal seconds)) in
    let flag = attr_where [] (codes "resume") (Some (codes "true")) in
    let a = where_given 96 (codes "id") (unless_empty (hex16_of n)) (word (codes "id") refl) (unless_said 96 (hex16_of n) (said_hex n)) in
    let b = where_given 120 (codes "max") (Some (decimal seconds)) (word (codes "max") refl) (said_decimal seconds small) in
    let c = where_given 24 (codes "resume") (Some (codes "true")) (word (codes "resume") refl) (said_word 24 (codes "true") refl refl) in
    let two = attributes_joined 1 1 144 168 given most a b in
    let three = attributes_joined 2 1 312 72 (given ++ most) flag two c in
    reads (enabled_elem (record { id = hex16_of n; resume = true; max = Some seconds })) 1 (312 + 72 + 400)
    (subst IsTree (enabled_stays (record { id = hex16_of n; resume = true; max = Some seconds })) (tidied_IsTree (enabled_elem (record { id = hex16_of n; resume = true; max = Some seconds }))))
    (with_none client_ns management (codes "enabled") (given ++ most ++ flag) 3 (312 + 72) (space management refl) (word (codes "enabled") refl) three (omega arith)) (other_space management (codes "enabled") refl) (omega arith) (omega arith)
