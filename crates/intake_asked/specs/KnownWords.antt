-- The words that a shop's command may have: those that are carried, and those that change no decision.
use Rattle.std.specs.Prelude.{List, [], ◌∷◌, codes}
use Rattle.terms.specs.declared.codes.CommandWord.{CommandWord}
use Rattle.terms.specs.declared.codes.CommandWord.TheVariants as word
use Rattle.terms.specs.Types.{Text}

-- of APPLY and ACCEPT
abbrev pub install_words : List Text
install_words =
    codes "FUNCTIONS" ∷ codes "FUNCTION" ∷ codes "PTFS" ∷ codes "PTF" ∷ codes "APARS" ∷ codes "APAR"
    ∷ codes "USERMODS" ∷ codes "USERMOD" ∷ codes "SELECT" ∷ codes "S" ∷ codes "EXCLUDE" ∷ codes "E"
    ∷ codes "SOURCEID" ∷ codes "FORFMID" ∷ codes "GROUP" ∷ codes "G" ∷ codes "GROUPEXTEND" ∷ codes "GEXT"
    ∷ codes "BYPASS" ∷ codes "CHECK" ∷ codes "C" ∷ codes "RETRY" ∷ codes "COMPRESS" ∷ codes "REUSE" ∷ codes "ASSEM"
    ∷ codes "NOJCLIN" ∷ codes "JCLINREPORT" ∷ codes "JCLR" ∷ codes "NOJCLINREPORT" ∷ codes "NOJCLR" ∷ codes "NOPURGE"
    ∷ codes "SIZE" ∷ []

abbrev pub known_operands : CommandWord → List Text
known_operands word.Set = codes "BDY" ∷ codes "BOUNDARY" ∷ codes "OPTIONS" ∷ []
known_operands word.Receive =
    codes "SYSMODS" ∷ codes "SYSMOD" ∷ codes "HOLDDATA" ∷ codes "SOURCEID" ∷ codes "BYPASS" ∷ codes "LIST"
    ∷ codes "RFPREFIX" ∷ codes "DELETEPKG" ∷ codes "COMPRESS" ∷ codes "C" ∷ codes "SIZE" ∷ []
known_operands word.Reject =
    codes "SELECT" ∷ codes "S" ∷ codes "COMPRESS" ∷ codes "C" ∷ codes "RETRY" ∷ codes "SIZE" ∷ []
known_operands word.Apply = install_words
known_operands word.Accept = install_words
known_operands word.Restore =
    codes "SELECT" ∷ codes "S" ∷ codes "GROUP" ∷ codes "G" ∷ codes "CHECK" ∷ codes "C" ∷ codes "COMPRESS"
    ∷ codes "RETRY" ∷ codes "REUSE" ∷ codes "SIZE" ∷ []
known_operands word.List = codes "TEXT" ∷ []
known_operands word.Report = codes "ERRSYSMODS" ∷ codes "NOPUNCH" ∷ []

-- of APPLY's BYPASS
abbrev pub apply_words : List Text
apply_words =
    codes "PRE" ∷ codes "REQ" ∷ codes "IFREQ" ∷ codes "ID" ∷ codes "HOLDERROR" ∷ codes "HOLDERR" ∷ codes "HOLDSYSTEM"
    ∷ codes "HOLDSYS" ∷ codes "HOLDUSER" ∷ codes "HOLDCLASS" ∷ codes "HOLDFIXCAT" ∷ []

abbrev pub known_members : CommandWord → List Text
known_members word.Receive = codes "FMID" ∷ codes "APPLYCHECK" ∷ codes "ACCEPTCHECK" ∷ []
known_members word.Apply = apply_words
known_members word.Accept = codes "APPLYCHECK" ∷ apply_words
known_members _ = []
