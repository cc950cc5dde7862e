-- The formats in which captures are written.
use Rattle.std.specs.List.{find}
use Rattle.std.specs.{Prelude.ℕ, Prelude.List, Prelude.[], Prelude.◌∷◌, Prelude.Option, Prelude.codes, Str.bytes_eq}
use Rattle.cap_octet.specs.declared.format.Format.{Format, TheVariants.Pcap, TheVariants.NsecPcap, TheVariants.Pcapng}

-- every format
unfoldable pub all_formats : List Format
all_formats = Pcap ∷ NsecPcap ∷ Pcapng ∷ []

-- the name of a format on command lines and in reports
abbrev pub format_name : Format → List ℕ
format_name Pcap = codes "pcap"
format_name NsecPcap = codes "nsecpcap"
format_name Pcapng = codes "pcapng"

-- the format that has this name, or None
abbrev pub format_of_name : List ℕ → Option Format
format_of_name name = find (λ format. bytes_eq (format_name format) name) all_formats
