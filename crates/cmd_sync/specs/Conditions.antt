-- Conditions that a server sent, by their names.
use Rattle.std.specs.Prelude.{ℕ, List, Option, None, Some, codes, find}
use Rattle.std.specs.Str.{bytes_eq}
use Rattle.cmd_sync.specs.declared.conditions.SentCondition.{SentCondition}
use Rattle.cmd_sync.specs.declared.conditions.SentCondition.TheVariants.{Aborted, AccountDisabled, BadFormat, BadNamespacePrefix, BadRequest, Conflict, ConnectionTimeout, CredentialsExpired, EncryptionRequired, FeatureNotImplemented, Forbidden, Gone, HostGone, HostUnknown, ImproperAddressing, IncorrectEncoding, InternalServerError, InvalidAuthzid, InvalidFrom, InvalidMechanism, InvalidNamespace, InvalidXml, ItemNotFound, JidMalformed, MalformedRequest, MechanismTooWeak, NotAcceptable, NotAllowed, NotAuthorized, NotWellFormed, PolicyViolation, RecipientUnavailable, Redirect, RegistrationRequired, RemoteConnectionFailed, RemoteServerNotFound, RemoteServerTimeout, Reset, ResourceConstraint, RestrictedXml, SeeOtherHost, ServiceUnavailable, SubscriptionRequired, SystemShutdown, TemporaryAuthFailure, UndefinedCondition, UnexpectedRequest, UnsupportedEncoding, UnsupportedFeature, UnsupportedStanzaType, UnsupportedVersion, Other}
use Rattle.cmd_sync.specs.declared.conditions.TheConstants.{KNOWN}

-- the name of a condition's element
abbrev pub sent_name : SentCondition → List ℕ
sent_name Aborted = codes "aborted"
sent_name AccountDisabled = codes "account-disabled"
sent_name BadFormat = codes "bad-format"
sent_name BadNamespacePrefix = codes "bad-namespace-prefix"
sent_name BadRequest = codes "bad-request"
sent_name Conflict = codes "conflict"
sent_name ConnectionTimeout = codes "connection-timeout"
sent_name CredentialsExpired = codes "credentials-expired"
sent_name EncryptionRequired = codes "encryption-required"
sent_name FeatureNotImplemented = codes "feature-not-implemented"
sent_name Forbidden = codes "forbidden"
sent_name Gone = codes "gone"
sent_name HostGone = codes "host-gone"
sent_name HostUnknown = codes "host-unknown"
sent_name ImproperAddressing = codes "improper-addressing"
sent_name IncorrectEncoding = codes "incorrect-encoding"
sent_name InternalServerError = codes "internal-server-error"
sent_name InvalidAuthzid = codes "invalid-authzid"
sent_name InvalidFrom = codes "invalid-from"
sent_name InvalidMechanism = codes "invalid-mechanism"
sent_name InvalidNamespace = codes "invalid-namespace"
sent_name InvalidXml = codes "invalid-xml"
sent_name ItemNotFound = codes "item-not-found"
sent_name JidMalformed = codes "jid-malformed"
sent_name MalformedRequest = codes "malformed-request"
sent_name MechanismTooWeak = codes "mechanism-too-weak"
sent_name NotAcceptable = codes "not-acceptable"
sent_name NotAllowed = codes "not-allowed"
sent_name NotAuthorized = codes "not-authorized"
sent_name NotWellFormed = codes "not-well-formed"
sent_name PolicyViolation = codes "policy-violation"
sent_name RecipientUnavailable = codes "recipient-unavailable"
sent_name Redirect = codes "redirect"
sent_name RegistrationRequired = codes "registration-required"
sent_name RemoteConnectionFailed = codes "remote-connection-failed"
sent_name RemoteServerNotFound = codes "remote-server-not-found"
sent_name RemoteServerTimeout = codes "remote-server-timeout"
sent_name Reset = codes "reset"
sent_name ResourceConstraint = codes "resource-constraint"
sent_name RestrictedXml = codes "restricted-xml"
sent_name SeeOtherHost = codes "see-other-host"
sent_name ServiceUnavailable = codes "service-unavailable"
sent_name SubscriptionRequired = codes "subscription-required"
sent_name SystemShutdown = codes "system-shutdown"
sent_name TemporaryAuthFailure = codes "temporary-auth-failure"
sent_name UndefinedCondition = codes "undefined-condition"
sent_name UnexpectedRequest = codes "unexpected-request"
sent_name UnsupportedEncoding = codes "unsupported-encoding"
sent_name UnsupportedFeature = codes "unsupported-feature"
sent_name UnsupportedStanzaType = codes "unsupported-stanza-type"
sent_name UnsupportedVersion = codes "unsupported-version"
sent_name Other = codes "another"

abbrev pub known_or_other : Option SentCondition → SentCondition
known_or_other None = Other
known_or_other (Some known) = known

-- the first of these with this name
abbrev pub first_named : List ℕ → List SentCondition → Option SentCondition
first_named name among = find (λ known. bytes_eq (sent_name known) name) among

-- the condition with this name
abbrev pub sent_condition : List ℕ → SentCondition
sent_condition name = known_or_other (first_named name KNOWN)
